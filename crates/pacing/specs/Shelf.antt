-- Document 02, ticket 14: a shelf of films. A slot names a film and a block of it by one number; the shelf is paced where each film is.
-- Assumes nothing.
use Prim.Native.Nat.{ℕ, zero, suc, ◌+◌, ◌-◌, ◌*◌, ◌/◌, ◌%◌, ◌≤◌, ◌<◌, min}
use Rattle.std.specs.Prelude.{◌≡◌, Bool, cond, ◌&&◌, ltb, eqb}
use Rattle.std.proofs.Math.Path.{refl, ap}
use Rattle.std.proofs.Common.{ap₂, ◌∙◌, arith, ltb-true, lt-ltb}
use Rattle.std.proofs.Math.Bool.{true, false}
use Rattle.laws.specs.Bools.{and_left, and_right, and_both}
use Rattle.laws.specs.Greatest.{greatest_of, greatest_of_same}
use Rattle.numbers.specs.Limits.{name_step}
use Rattle.pacing.specs.Film.{Film, Paced, row, span, run_sum, lead}

-- the name of a block, and of the film's end; a number that no film has stays one
abbrev pub name_of : ℕ → ℕ → ℕ
name_of i b = name_step * i + min b (name_step - 1)

abbrev pub film_in : ℕ → ℕ
film_in a = a / name_step

abbrev pub block_in : ℕ → ℕ
block_in a = a % name_step

pub film_of_name : (i b : ℕ) → film_in (name_of i b) ≡ i
film_of_name i b = omega arith

pub block_of_name : (i b : ℕ) → b < name_step → block_in (name_of i b) ≡ b
block_of_name i b u = omega arith

-- a number is the name of what it names
pub name_back : (a : ℕ) → name_of (film_in a) (block_in a) ≡ a
name_back a = omega arith

-- a film paced by its own worst time is paced by a greater one
pub paced_more : {A : Type 0} (film : Film A) (w v m n : ℕ) → w ≤ v → m ≤ n → Paced film w m → Paced film v n
paced_more film w v m n h k ok = record {
  goes = ok.goes;
  pairs = λ a e q. omega (arith, ok.pairs a e q);
  slow = λ a e. omega (arith, ok.slow a e);
  runs = ok.runs;
}

-- F films; `none` refuses a join to another
module _ (F : ℕ) (films : ℕ → Film ℕ) (none : ℕ) where
  abbrev pub shelf : Film ℕ
  shelf = record {
    none = 0;
    is_none = λ a. eqb a 0;
    is_block = λ a. ltb (film_in a) F && (films (film_in a)).is_block (block_in a);
    fault = λ a. cond (ltb (film_in a) F) ((films (film_in a)).fault (block_in a)) none;
    is_end = λ a. ltb (film_in a) F && (films (film_in a)).is_end (block_in a);
    next = λ a. name_of (film_in a) ((films (film_in a)).next (block_in a));
    number = block_in;
    position = λ a. (films (film_in a)).position (block_in a);
    others = λ a. (films (film_in a)).others (block_in a);
    time = λ a. (films (film_in a)).time (block_in a);
    longest = λ a. (films (film_in a)).longest (block_in a);
  }

  -- after a block of a film comes a number that can be named
  module _ (low : (i b : ℕ) → i < F → (films i).is_block b ≡ true → (films i).next b < name_step) where
    next_film : (a : ℕ) → film_in (shelf.next a) ≡ film_in a
    next_film a = film_of_name (film_in a) _

    next_block : (a : ℕ) → shelf.is_block a ≡ true → block_in (shelf.next a) ≡ (films (film_in a)).next (block_in a)
    next_block a e = let i = and_left (ltb (film_in a) F) _ e in
        block_of_name (film_in a) _ (low (film_in a) (block_in a) (ltb-true (film_in a) F i) (and_right (ltb (film_in a) F) _ e))

    module _ (w m : ℕ) where
      -- t is the name of what comes after block b of film i
      goes_to : (i b t : ℕ) → film_in t ≡ i → block_in t ≡ (films i).next b → ltb i F ≡ true → Paced (films i) w m → (films i).is_block b ≡ true
          → shelf.is_end t ≡ false → shelf.is_block t ≡ true
      goes_to i b t f g u ok e q = rw (f, g) (and_both u (ok.goes b e (rw (f, g, u) at q)))

      pairs_to : (i b t : ℕ) → film_in t ≡ i → block_in t ≡ (films i).next b → Paced (films i) w m → (films i).is_block b ≡ true
          → shelf.is_block t ≡ true → (films i).time b + (films (film_in t)).time (block_in t) ≤ w
      pairs_to i b t f g ok e q = rw (f, g) (ok.pairs b e (rw (f, g) at (and_right (ltb (film_in t) F) _ q)))

      pub shelf_paced : ((i : ℕ) → i < F → Paced (films i) w m) → Paced shelf w m
      shelf_paced each = record {
        goes = λ a e q. let u = and_left (ltb (film_in a) F) _ e in
            goes_to (film_in a) (block_in a) (shelf.next a) (next_film a) (next_block a e) u (each (film_in a) (ltb-true (film_in a) F u))
            (and_right (ltb (film_in a) F) _ e) q;
        pairs = λ a e q. let u = and_left (ltb (film_in a) F) _ e in
            pairs_to (film_in a) (block_in a) (shelf.next a) (next_film a) (next_block a e) (each (film_in a) (ltb-true (film_in a) F u))
            (and_right (ltb (film_in a) F) _ e) q;
        slow = λ a e. let i = and_left (ltb (film_in a) F) _ e in
            (each (film_in a) (ltb-true (film_in a) F i)).slow (block_in a) (and_right (ltb (film_in a) F) _ e);
        runs = λ a e. let i = and_left (ltb (film_in a) F) _ e in
            (each (film_in a) (ltb-true (film_in a) F i)).runs (block_in a) (and_right (ltb (film_in a) F) _ e);
      }

    -- ---- a block of film i, by its name

    module _ (i : ℕ) (u : i < F) where
      -- it is one where it is one of the film
      pub film_block : (b : ℕ) → b < name_step → shelf.is_block (name_of i b) ≡ (films i).is_block b
      film_block b h = rw (film_of_name i b, block_of_name i b h, lt-ltb i F u)

      pub film_next : (b : ℕ) → b < name_step → shelf.next (name_of i b) ≡ name_of i ((films i).next b)
      film_next b h = rw (film_of_name i b, block_of_name i b h)

      pub film_time : (b : ℕ) → b < name_step → shelf.time (name_of i b) ≡ (films i).time b
      film_time b h = ap₂ (λ (j c : ℕ). (films j).time c) (film_of_name i b) (block_of_name i b h)

      film_longest : (b : ℕ) → b < name_step → shelf.longest (name_of i b) ≡ (films i).longest b
      film_longest b h = ap₂ (λ (j c : ℕ). (films j).longest c) (film_of_name i b) (block_of_name i b h)

      -- blocks in a row are those of the film
      film_row : (j b : ℕ) → b < name_step → row shelf j (name_of i b) ≡ row (films i) j b
      unfolding row
      film_row zero b h = refl
      film_row (suc j) b h = rw (film_block b h, film_next b h) (go ((films i).is_block b) refl (λ e. film_row j ((films i).next b) (low i b u e)))
        where
          go : (t : Bool) → (films i).is_block b ≡ t → ((films i).is_block b ≡ true → row shelf j (name_of i ((films i).next b)) ≡ row (films i) j ((films i).next b))
              → (t && row shelf j (name_of i ((films i).next b))) ≡ (t && row (films i) j ((films i).next b))
          go true e ih = ih e
          go false e ih = refl

      -- and take their times
      film_span : (j b : ℕ) → b < name_step → row (films i) j b ≡ true → span shelf j (name_of i b) ≡ span (films i) j b
      unfolding row span
      film_span zero b h e = refl
      film_span (suc j) b h e =
          let t = and_left ((films i).is_block b) _ e in
          rw (film_time b h, film_next b h, film_span j ((films i).next b) (low i b u t) (and_right ((films i).is_block b) _ e))

      film_run : (w b j : ℕ) → b < name_step → run_sum shelf w (name_of i b) j ≡ run_sum (films i) w b j
      film_run w b j h = rw (film_row j b h) (go (row (films i) j b) refl)
        where
          go : (t : Bool) → row (films i) j b ≡ t
              → cond t (2 * span shelf j (name_of i b) - j * w) 0 ≡ cond t (2 * span (films i) j b - j * w) 0
          go true e = rw (film_span j b h e)
          go false e = refl

      -- SO A LEAD IS THAT OF THE FILM ALONE, by any worst time
      pub film_lead : (w b : ℕ) → b < name_step → lead shelf w (name_of i b) ≡ lead (films i) w b
      unfolding lead
      film_lead w b h =
          ap (λ (k : ℕ). greatest_of (run_sum shelf w (name_of i b)) (suc k)) (film_longest b h)
          ∙ greatest_of_same (run_sum shelf w (name_of i b)) (run_sum (films i) w b) (suc ((films i).longest b)) (λ j l. film_run w b j h)
