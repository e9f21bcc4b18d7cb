-- Document 02, ticket 5: places that are at most the number of requests and apart are all the numbers from 1 up to it: none is left out (T5.9).
-- Assumes nothing.
use Rattle.std.specs.Prelude.{ℕ, zero, suc, ◌+◌, ◌-◌, ◌≤◌, ◌<◌, ◌≡◌, ◌≢◌, Bool, true, false, cond, ◌&&◌, length, get_or, ltb}
use Rattle.std.proofs.Math.Path.{refl}
use Rattle.std.proofs.Common.{sym, ap, ◌∙◌, arith, ltb-true, eqb-true, eq-eqb, lt-ltb}
use Rattle.std.proofs.Math.Logic.{by_cases}
use mathlib.Core.List.{List, [], ◌∷◌}
use Rattle.std.proofs.Math.Decide.{dec_lt, ℕ_discrete}
use Rattle.std.proofs.Math.Dec.{eqb}
use Rattle.laws.specs.Bools.{bit, clash, and_left, and_right, and_both}
use Rattle.laws.specs.Runs.{sum_by}
use Rattle.laws.specs.Count.{count, count_or, pigeons}
use Rattle.numbers.specs.Slots.{waiting}
use Rattle.rules.specs.Supply.{Supply}
use Rattle.rules.specs.Scheduler.{Slot, at}
use Rattle.rules.specs.Order.{waiting_count}
use Rattle.turns.specs.Places.{Places}

-- ---- counting: one that passes, and the first apart

some_pass : (f : ℕ → Bool) (n : ℕ) → 0 < count f n → (j : ℕ) × (j < n) × (f j ≡ true)
unfolding count
some_pass f zero h = absurd (omega arith)
some_pass f (suc n) h = go (f n) refl h (λ u. some_pass f n u)
  where
    later : (j : ℕ) × (j < n) × (f j ≡ true) → (j : ℕ) × (j < suc n) × (f j ≡ true)
    later (j, l, e) = (j, omega arith, e)

    go : (t : Bool) → f n ≡ t → 0 < bit t + count f n → (0 < count f n → (j : ℕ) × (j < n) × (f j ≡ true)) → (j : ℕ) × (j < suc n) × (f j ≡ true)
    go true e u ih = (n, omega arith, e)
    go false e u ih = later (ih (omega arith))

passes : (f : ℕ → Bool) (n a : ℕ) → a < n → f a ≡ true → 0 < count f n
unfolding count
passes f zero a u e = absurd (omega arith)
passes f (suc n) a u e = by_cases (ℕ_discrete a n) (λ z. rw (ap f (sym z) ∙ e) (omega arith)) (λ z. omega (arith, passes f n a (omega arith) e))

first_apart : (f : ℕ → Bool) (n : ℕ) → count f (suc n) ≡ bit (f 0) + count (λ j. f (suc j)) n
unfolding count
first_apart f zero = omega arith
first_apart f (suc n) = omega (arith, first_apart f n)

module _ {A : Type 0} (p : Supply A) where
  waiting_count_law : (ss : List (Slot A)) → waiting_count p ss ≡ count (λ j. eqb (at p ss j).kind waiting) (length ss)
  unfolding waiting_count sum_by count
  waiting_count_law [] = refl
  waiting_count_law (s ∷ ss) =
      let r : waiting_count p ss ≡ count (λ j. eqb (at p ss j).kind waiting) (length ss) = waiting_count_law ss in
      omega (arith, r, first_apart (λ j. eqb (at p (s ∷ ss) j).kind waiting) (length ss))

  -- EACH PLACE from 1 up to the number of requests IS HELD: while a slot asks there is an eldest
  pub place_held : (ss : List (Slot A)) (q : List ℕ) → Places p ss q → (k : ℕ) → 0 < k → k ≤ waiting_count p ss → (j : ℕ) × (j < length ss) × (get_or q j 0 ≡ k)
  place_held ss q h k some most = by_cases (dec_lt 0 (count here n)) (λ u. found (some_pass here n u)) (λ u. absurd (none u))
    where
      n : ℕ
      n = length ss

      c : ℕ
      c = waiting_count p ss

      asks : ℕ → Bool
      asks j = eqb (at p ss j).kind waiting

      -- requests at place k, below it and above it
      here : ℕ → Bool
      here j = eqb (get_or q j 0) k

      low : ℕ → Bool
      low j = asks j && ltb (get_or q j 0) k

      high : ℕ → Bool
      high j = asks j && ltb k (get_or q j 0)

      found : (j : ℕ) × (j < n) × (here j ≡ true) → (j : ℕ) × (j < n) × (get_or q j 0 ≡ k)
      found (j, v, e) = (j, v, eqb-true (get_or q j 0) k e)

      -- places made different for all slots
      l : ℕ → ℕ
      l j = cond (asks j) (get_or q j 0) (c + 1 + j)

      own : (j : ℕ) → asks j ≡ true → l j ≡ get_or q j 0
      own j e = rw e

      apart : (a b : ℕ) → a < n → b < n → l a ≡ l b → a ≡ b
      apart a b u v e = go (asks a) refl (asks b) refl e
        where
          go : (x : Bool) → asks a ≡ x → (y : Bool) → asks b ≡ y → cond x (get_or q a 0) (c + 1 + a) ≡ cond y (get_or q b 0) (c + 1 + b) → a ≡ b
          go true d true f g = h.apart a b (h.named a (eqb-true (at p ss a).kind waiting d)) g
          go true d false f g = absurd (omega (arith, h.low a))
          go false d true f g = absurd (omega (arith, h.low b))
          go false d false f g = omega arith

      lows : count low n ≤ k - 1
      lows = pigeons n l apart 1 (k - 1) low (λ b u e.
          let a = and_left (asks b) _ e in
          omega (arith, own b a, h.named b (eqb-true (at p ss b).kind waiting a), ltb-true (get_or q b 0) k (and_right (asks b) _ e)))

      highs : count high n ≤ c - k
      highs = pigeons n l apart (suc k) (c - k) high (λ b u e.
          let a = and_left (asks b) _ e in
          omega (arith, own b a, h.low b, ltb-true k (get_or q b 0) (and_right (asks b) _ e)))

      none : (0 < count here n → ⊥) → ⊥
      none u = omega (arith, waiting_count_law ss, lows, highs, count_or asks low high n split)
        where
          split : (b : ℕ) → b < n → asks b ≡ true → low b ≡ false → high b ≡ true
          split b v e d =
              let other : get_or q b 0 ≢ k = λ z. u (passes here n b v (eq-eqb (get_or q b 0) k z)) in
              let above : k < get_or q b 0 =
              by_cases (dec_lt (get_or q b 0) k) (λ w. clash (and_both e (lt-ltb (get_or q b 0) k w)) d) (λ w. omega arith) in
              and_both e (lt-ltb k (get_or q b 0) above)
