-- Document 02, ticket 6: while a batch runs a slot that asks has a ticket. Tickets rise in the order of asking, and one that leaves frees its number;
-- the place of a request is how many tickets are held up to its own. So a move changes one ticket, and all places as the rules say.
-- Assumes nothing.
use Rattle.std.specs.Prelude.{ℕ, zero, suc, ◌+◌, ◌≤◌, ◌<◌, ◌≡◌, refl, ◌≢◌, Bool, true, false, cond, ◌&&◌, List, [], ◌∷◌, map, length, get_or, set, leb, ltb, eqb}
use Rattle.std.proofs.Common.{sym, ap, ◌∙◌, arith, length-set, ext_get_or, eqb-true, ne_eqb, eq-eqb, lt-ltb, le-ltb, le-leb}
use Rattle.std.proofs.Math.Logic.{by_cases}
use Rattle.std.proofs.Math.Decide.{dec_lt, dec_le, ℕ_discrete}
use Rattle.std.proofs.lemmas.List.{length-map, set-get_or}
use Rattle.std.proofs.lemmas.Bool.{eqb-false, lt-leb}
use Rattle.laws.specs.Bools.{bit}
use Rattle.laws.specs.Runs.{sum_by}
use Rattle.rules.specs.Supply.{Supply}
use Rattle.rules.specs.Scheduler.{Slot}
use Rattle.rules.specs.Order.{dropped, waiting_count}
use Rattle.turns.specs.Places.{Places, get_self, get_other, get_map, set_past, drop_same, drop_less, drop_more}
use Rattle.turns.specs.Ranks.{place_held}

-- how many tickets of q are 1 up to x
unfoldable pub count_to : List ℕ → ℕ → ℕ
count_to q x = sum_by (λ y. bit (ltb 0 y && leb y x)) q

-- how many are x
unfoldable pub count_at : List ℕ → ℕ → ℕ
count_at q x = sum_by (λ y. bit (eqb y x)) q

-- how many are held
unfoldable pub held : List ℕ → ℕ
held q = sum_by (λ y. bit (ltb 0 y)) q

-- the places that tickets stand for
unfoldable pub ranks : List ℕ → List ℕ
ranks q = map (count_to q) q

-- no ticket is held twice
abbrev pub Apart : List ℕ → Type 0
Apart q = (i j : ℕ) → 0 < get_or q i 0 → get_or q i 0 ≡ get_or q j 0 → i ≡ j

-- t was not given yet
abbrev pub Below : ℕ → List ℕ → Type 0
Below t q = (j : ℕ) → get_or q j 0 < t

-- ---- sums over a list

sum_set : (f : ℕ → ℕ) (q : List ℕ) (i x : ℕ) → i < length q → sum_by f (set q i x) + f (get_or q i 0) ≡ sum_by f q + f x
unfolding sum_by
sum_set f [] i x h = absurd (omega arith)
sum_set f (y ∷ q) zero x h = omega arith
sum_set f (y ∷ q) (suc i) x h = omega (arith, sum_set f q i x (omega arith))

sum_same : (f g : ℕ → ℕ) (q : List ℕ) → ((j : ℕ) → f (get_or q j 0) ≡ g (get_or q j 0)) → sum_by f q ≡ sum_by g q
unfolding sum_by
sum_same f g [] h = refl
sum_same f g (y ∷ q) h = omega (arith, h 0, sum_same f g q (λ j. h (suc j)))

sum_zero : (f : ℕ → ℕ) (q : List ℕ) → ((j : ℕ) → f (get_or q j 0) ≡ 0) → sum_by f q ≡ 0
unfolding sum_by
sum_zero f [] h = refl
sum_zero f (y ∷ q) h = omega (arith, h 0, sum_zero f q (λ j. h (suc j)))

sum_add : (f g s : ℕ → ℕ) (q : List ℕ) → ((y : ℕ) → s y ≡ f y + g y) → sum_by s q ≡ sum_by f q + sum_by g q
unfolding sum_by
sum_add f g s [] h = refl
sum_add f g s (y ∷ q) h = omega (arith, h y, sum_add f g s q h)

sum_le : (f g : ℕ → ℕ) (q : List ℕ) → ((y : ℕ) → f y ≤ g y) → sum_by f q ≤ sum_by g q
unfolding sum_by
sum_le f g [] h = omega arith
sum_le f g (y ∷ q) h = omega (arith, h y, sum_le f g q h)

sum_less : (f g : ℕ → ℕ) (q : List ℕ) (j : ℕ) → ((y : ℕ) → f y ≤ g y) → j < length q → f (get_or q j 0) < g (get_or q j 0) → sum_by f q < sum_by g q
unfolding sum_by
sum_less f g [] j h l u = absurd (omega arith)
sum_less f g (y ∷ q) zero h l u = omega (arith, sum_le f g q h)
sum_less f g (y ∷ q) (suc j) h l u = omega (arith, h y, sum_less f g q j h (omega arith) u)

-- ---- one ticket y, seen from x

abbrev counts : ℕ → ℕ → ℕ
counts x y = bit (ltb 0 y && leb y x)

counts_one : (x y : ℕ) → 0 < y → y ≤ x → counts x y ≡ 1
counts_one x y h k = rw (lt-ltb 0 y h, le-leb y x k)

counts_free : (x y : ℕ) → y ≡ 0 → counts x y ≡ 0
counts_free x y e = rw (le-ltb 0 y (omega arith))

counts_later : (x y : ℕ) → x < y → counts x y ≡ 0
counts_later x y h = rw (lt-ltb 0 y (omega arith), lt-leb y x h)

counts_mono : (x z y : ℕ) → x ≤ z → counts x y ≤ counts z y
counts_mono x z y h = by_cases (ℕ_discrete y 0) (λ e. omega (arith, counts_free x y e))
    (λ n. by_cases (dec_le y x) (λ k. omega (arith, counts_one x y (omega arith) k, counts_one z y (omega arith) (omega arith)))
    (λ k. omega (arith, counts_later x y (omega arith))))

-- ---- the counts

pub count_zero : (q : List ℕ) → count_to q 0 ≡ 0
unfolding count_to
count_zero q = sum_zero (counts 0) q (λ j. none (get_or q j 0))
  where
    none : (y : ℕ) → counts 0 y ≡ 0
    none y = by_cases (ℕ_discrete y 0) (counts_free 0 y) (λ n. counts_later 0 y (omega arith))

-- those up to the next number are those up to x and those that are the next
pub count_next : (q : List ℕ) (x : ℕ) → count_to q (suc x) ≡ count_to q x + count_at q (suc x)
unfolding count_to count_at
count_next q x = sum_add (counts x) (λ y. bit (eqb y (suc x))) (counts (suc x)) q one
  where
    one : (y : ℕ) → counts (suc x) y ≡ counts x y + bit (eqb y (suc x))
    one y = by_cases (ℕ_discrete y (suc x))
        (λ e. rw (eq-eqb y (suc x) e) (omega (arith, counts_one (suc x) y (omega arith) (omega arith), counts_later x y (omega arith))))
        (λ n. rw (ne_eqb y (suc x) n) (by_cases (ℕ_discrete y 0)
        (λ z. omega (arith, counts_free x y z, counts_free (suc x) y z))
        (λ z. by_cases (dec_le y x) (λ k. omega (arith, counts_one x y (omega arith) k, counts_one (suc x) y (omega arith) (omega arith)))
        (λ k. omega (arith, counts_later x y (omega arith), counts_later (suc x) y (omega arith))))))

count_set : (q : List ℕ) (i t x : ℕ) → i < length q → count_to (set q i t) x + counts x (get_or q i 0) ≡ count_to q x + counts x t
unfolding count_to
count_set q i t x h = sum_set (counts x) q i t h

inside : (q : List ℕ) (j : ℕ) → 0 < get_or q j 0 → j < length q
inside [] j h = absurd (omega arith)
inside (y ∷ q) zero h = omega arith
inside (y ∷ q) (suc j) h = omega (arith, inside q j h)

-- a ticket counts more than any number below it
count_less : (q : List ℕ) (j x : ℕ) → x < get_or q j 0 → count_to q x < count_to q (get_or q j 0)
unfolding count_to
count_less q j x h =
    let t = get_or q j 0 in
    sum_less (counts x) (counts t) q j (λ y. counts_mono x t y (omega arith)) (inside q j (omega arith))
    (omega (arith, counts_later x t h, counts_one t t (omega arith) (omega arith)))

-- up to a number past all of them, all that are held
pub count_all : (q : List ℕ) (x : ℕ) → ((j : ℕ) → get_or q j 0 ≤ x) → count_to q x ≡ held q
unfolding count_to held
count_all q x h = sum_same (counts x) (λ y. bit (ltb 0 y)) q (λ j. same (get_or q j 0) (h j))
  where
    same : (y : ℕ) → y ≤ x → counts x y ≡ bit (ltb 0 y)
    same y u = by_cases (ℕ_discrete y 0) (λ e. rw (le-ltb 0 y (omega arith))) (λ n. rw (lt-ltb 0 y (omega arith), le-leb y x u))

-- ---- the ranks

pub ranks_at : (q : List ℕ) (i : ℕ) → get_or (ranks q) i 0 ≡ count_to q (get_or q i 0)
unfolding ranks
ranks_at q i = get_map (count_to q) q i (count_zero q)

pub ranks_length : (q : List ℕ) → length (ranks q) ≡ length q
unfolding ranks
ranks_length q = length-map q (count_to q)

-- a slot has a rank exactly where it has a ticket
pub ranks_free : (q : List ℕ) (i : ℕ) → get_or q i 0 ≡ 0 → get_or (ranks q) i 0 ≡ 0
ranks_free q i e = ranks_at q i ∙ ap (count_to q) e ∙ count_zero q

pub ranks_asked : (q : List ℕ) (i : ℕ) → 0 < get_or q i 0 → 0 < get_or (ranks q) i 0
ranks_asked q i h = omega (arith, ranks_at q i, count_less q i 0 h)

pub ranks_none : (q : List ℕ) (i : ℕ) → get_or (ranks q) i 0 ≡ 0 → get_or q i 0 ≡ 0
ranks_none q i e = by_cases (ℕ_discrete (get_or q i 0) 0) (λ z. z) (λ z. absurd (omega (arith, ranks_asked q i (omega arith))))

-- ---- the ticket of one slot, and of the others, where it gets t

set_own : (q : List ℕ) (i j t : ℕ) → i < length q → j ≡ i → get_or (set q i t) j 0 ≡ t
set_own q i j t r e = ap (λ (x : ℕ). get_or (set q i t) x 0) e ∙ get_self q i t 0 r

-- A JOIN with a new ticket is a join behind all that ask
pub ranks_joined : (q : List ℕ) (i t : ℕ) → i < length q → get_or q i 0 ≡ 0 → 0 < t → Below t q → ranks (set q i t) ≡ set (ranks q) i (held q + 1)
ranks_joined q i t r z some new =
    ext_get_or 0 (ranks (set q i t)) (set (ranks q) i (held q + 1)) long (λ j u. by_cases (ℕ_discrete j i) (own j) (other j))
  where
    long : length (ranks (set q i t)) ≡ length (set (ranks q) i (held q + 1))
    long = ranks_length (set q i t) ∙ length-set q i t ∙ sym (length-set (ranks q) i (held q + 1) ∙ ranks_length q)

    far : i < length (ranks q)
    far = omega (arith, ranks_length q)

    own : (j : ℕ) → j ≡ i → get_or (ranks (set q i t)) j 0 ≡ get_or (set (ranks q) i (held q + 1)) j 0
    own j e =
        omega (
          arith,
          ranks_at (set q i t) j,
          ap (count_to (set q i t)) (set_own q i j t r e),
          count_set q i t t r,
          counts_free t (get_or q i 0) z,
          counts_one t t some (omega arith),
          count_all q t (λ k. omega (arith, new k)),
          set_own (ranks q) i j (held q + 1) far e,
        )

    other : (j : ℕ) → j ≢ i → get_or (ranks (set q i t)) j 0 ≡ get_or (set (ranks q) i (held q + 1)) j 0
    other j n =
        let x = get_or q j 0 in
        omega (
          arith,
          ranks_at (set q i t) j,
          ap (count_to (set q i t)) (get_other q i j t 0 r n),
          count_set q i t x r,
          counts_free x (get_or q i 0) z,
          counts_later x t (new j),
          ranks_at q j,
          get_other (ranks q) i j (held q + 1) 0 far n,
        )

-- A LEAVE lowers the places behind it
pub ranks_left : (q : List ℕ) (i : ℕ) → Apart q
    → ranks (set q i 0) ≡ cond (eqb (get_or (ranks q) i 0) 0) (ranks q) (map (dropped (get_or (ranks q) i 0)) (ranks q))
ranks_left q i apart = go (eqb m 0) refl
  where
    m : ℕ
    m = get_or (ranks q) i 0

    t : ℕ
    t = get_or q i 0

    go : (b : Bool) → eqb m 0 ≡ b → ranks (set q i 0) ≡ cond b (ranks q) (map (dropped m) (ranks q))
    go true e = ap (λ (x : ℕ). ranks (set q i x)) (sym (ranks_none q i (eqb-true m 0 e))) ∙ ap ranks (set-get_or q i 0)
    go false e = ext_get_or 0 (ranks (set q i 0)) (map (dropped m) (ranks q)) long (λ j u. by_cases (ℕ_discrete j i) (own j) (other j))
      where
        placed : 0 < m
        placed = omega (arith, eqb-false m 0 e)

        some : 0 < t
        some = by_cases (ℕ_discrete t 0) (λ z. absurd (omega (arith, ranks_free q i z, placed))) (λ n. omega arith)

        r : i < length q
        r = inside q i some

        long : length (ranks (set q i 0)) ≡ length (map (dropped m) (ranks q))
        long = ranks_length (set q i 0) ∙ length-set q i 0 ∙ sym (length-map (ranks q) (dropped m) ∙ ranks_length q)

        low : (j : ℕ) → get_or (map (dropped m) (ranks q)) j 0 ≡ dropped m (get_or (ranks q) j 0)
        low j = get_map (dropped m) (ranks q) j (drop_less m 0 placed)

        own : (j : ℕ) → j ≡ i → get_or (ranks (set q i 0)) j 0 ≡ get_or (map (dropped m) (ranks q)) j 0
        own j x = ranks_free (set q i 0) j (set_own q i j 0 r x)
            ∙ sym (low j ∙ drop_same m (get_or (ranks q) j 0) (ap (λ (k : ℕ). get_or (ranks q) k 0) x))

        other : (j : ℕ) → j ≢ i → get_or (ranks (set q i 0)) j 0 ≡ get_or (map (dropped m) (ranks q)) j 0
        other j n = now ∙ by_cases (dec_lt x t) before (λ h. after (omega (arith, h, differ))) ∙ sym (low j)
          where
            x : ℕ
            x = get_or q j 0

            differ : x ≢ t
            differ e = n (sym (apart i j some (sym e)))

            now : get_or (ranks (set q i 0)) j 0 ≡ count_to (set q i 0) x
            now = ranks_at (set q i 0) j ∙ ap (count_to (set q i 0)) (get_other q i j 0 0 r n)

            -- one that asked earlier keeps its place
            before : x < t → count_to (set q i 0) x ≡ dropped m (get_or (ranks q) j 0)
            before h =
                omega (
                  arith,
                  count_set q i 0 x r,
                  counts_later x t h,
                  counts_free x 0 refl,
                  ranks_at q j,
                  drop_less m (get_or (ranks q) j 0) (omega (arith, ranks_at q j, ranks_at q i, count_less q i x h)),
                )

            -- one that asked later is one place further on
            after : t < x → count_to (set q i 0) x ≡ dropped m (get_or (ranks q) j 0)
            after h =
                omega (
                  arith,
                  count_set q i 0 x r,
                  counts_one x t some (omega arith),
                  counts_free x 0 refl,
                  ranks_at q j,
                  drop_more m (get_or (ranks q) j 0) (omega (arith, ranks_at q j, ranks_at q i, count_less q j t h)),
                )

-- ---- what a move keeps

pub apart_joined : (q : List ℕ) (i t : ℕ) → i < length q → Below t q → Apart q → Apart (set q i t)
apart_joined q i t r new h j k u e =
    by_cases (ℕ_discrete j i)
    (λ x. by_cases (ℕ_discrete k i) (λ y. omega arith) (λ y. absurd (omega (arith, e, set_own q i j t r x, get_other q i k t 0 r y, new k))))
    (λ x. by_cases (ℕ_discrete k i) (λ y. absurd (omega (arith, e, set_own q i k t r y, get_other q i j t 0 r x, new j)))
    (λ y. h j k (omega (arith, u, get_other q i j t 0 r x)) (sym (get_other q i j t 0 r x) ∙ e ∙ get_other q i k t 0 r y)))

pub below_joined : (q : List ℕ) (i t : ℕ) → i < length q → Below t q → Below (t + 1) (set q i t)
below_joined q i t r h j =
    by_cases (ℕ_discrete j i) (λ x. omega (arith, set_own q i j t r x)) (λ x. omega (arith, get_other q i j t 0 r x, h j))

-- a ticket after another is given back: none, or as it was
left_le : (q : List ℕ) (i j : ℕ) → get_or (set q i 0) j 0 ≤ get_or q j 0
left_le q i j = by_cases (dec_lt i (length q))
    (λ r. by_cases (ℕ_discrete j i) (λ x. omega (arith, set_own q i j 0 r x)) (λ x. omega (arith, get_other q i j 0 0 r x)))
    (λ r. omega (arith, ap (λ (p : List ℕ). get_or p j 0) (set_past q i 0 (omega arith))))

left_same : (q : List ℕ) (i j : ℕ) → 0 < get_or (set q i 0) j 0 → get_or (set q i 0) j 0 ≡ get_or q j 0
left_same q i j h = by_cases (dec_lt i (length q))
    (λ r. by_cases (ℕ_discrete j i) (λ x. absurd (omega (arith, set_own q i j 0 r x))) (λ x. get_other q i j 0 0 r x))
    (λ r. ap (λ (p : List ℕ). get_or p j 0) (set_past q i 0 (omega arith)))

pub apart_left : (q : List ℕ) (i : ℕ) → Apart q → Apart (set q i 0)
apart_left q i h j k u e =
    let a = left_same q i j u in
    let b = left_same q i k (omega (arith, u, e)) in
    h j k (omega (arith, a, u)) (sym a ∙ e ∙ b)

pub below_left : (q : List ℕ) (i t : ℕ) → Below t q → Below t (set q i 0)
below_left q i t h j = omega (arith, left_le q i j, h j)

-- one more is held after a join, and one less after a leave
pub held_joined : (q : List ℕ) (i t : ℕ) → i < length q → get_or q i 0 ≡ 0 → 0 < t → held (set q i t) ≡ held q + 1
unfolding held
held_joined q i t r z h =
    let s : held (set q i t) + bit (ltb 0 (get_or q i 0)) ≡ held q + bit (ltb 0 t) = sum_set (λ y. bit (ltb 0 y)) q i t r in
    omega (arith, rw (le-ltb 0 (get_or q i 0) (omega (arith, z)), lt-ltb 0 t h) at s)

pub held_left : (q : List ℕ) (i : ℕ) → 0 < get_or q i 0 → held (set q i 0) + 1 ≡ held q
unfolding held
held_left q i h =
    let s : held (set q i 0) + bit (ltb 0 (get_or q i 0)) ≡ held q + 0 = sum_set (λ y. bit (ltb 0 y)) q i 0 (inside q i h) in
    omega (arith, rw (lt-ltb 0 (get_or q i 0) h) at s)

-- ---- places are tickets: their ranks are they

-- a ticket that is held stands once
held_once : (q : List ℕ) (j x : ℕ) → Apart q → 0 < x → get_or q j 0 ≡ x → count_at q x ≡ 1
unfolding count_at
held_once q j x h some e = omega (arith, sum_set f q j 0 r, yes_one, none_one, sum_zero f (set q j 0) others)
  where
    f : ℕ → ℕ
    f y = bit (eqb y x)

    r : j < length q
    r = inside q j (omega (arith, e))

    yes_one : f (get_or q j 0) ≡ 1
    yes_one = rw (eq-eqb (get_or q j 0) x e)

    none_one : f 0 ≡ 0
    none_one = rw (ne_eqb 0 x (λ z. omega arith))

    others : (k : ℕ) → f (get_or (set q j 0) k 0) ≡ 0
    others k = by_cases (ℕ_discrete k j)
        (λ z. ap f (set_own q j k 0 r z) ∙ none_one)
        (λ z. ap f (get_other q j k 0 0 r z) ∙ rw (ne_eqb (get_or q k 0) x (λ d. z (h k j (omega (arith, d)) (d ∙ sym e)))))

module _ {A : Type 0} (p : Supply A) where
  count_is : (ss : List (Slot A)) (q : List ℕ) → Places p ss q → (x : ℕ) → x ≤ waiting_count p ss → count_to q x ≡ x
  count_is ss q h zero u = count_zero q
  count_is ss q h (suc x) u = go (place_held p ss q h (suc x) (omega arith) u) (count_is ss q h x (omega arith))
    where
      go : (j : ℕ) × (j < length ss) × (get_or q j 0 ≡ suc x) → count_to q x ≡ x → count_to q (suc x) ≡ suc x
      go (j, l, e) d = omega (arith, count_next q x, held_once q j (suc x) h.apart (omega arith) e, d)

  pub ranks_same : (ss : List (Slot A)) (q : List ℕ) → Places p ss q → ranks q ≡ q
  ranks_same ss q h = ext_get_or 0 (ranks q) q (ranks_length q) (λ j u. ranks_at q j ∙ count_is ss q h (get_or q j 0) (h.low j))

  pub held_same : (ss : List (Slot A)) (q : List ℕ) → Places p ss q → held q ≡ waiting_count p ss
  held_same ss q h = sym (count_all q (waiting_count p ss) h.low) ∙ count_is ss q h (waiting_count p ss) (omega arith)
