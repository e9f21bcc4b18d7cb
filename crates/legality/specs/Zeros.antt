-- The unused entries of a record are zero.
-- Assumes nothing.
use Rattle.std.specs.Prelude.{ℕ, suc, ◌+◌, ◌-◌, ◌≤◌, ◌<◌, ◌≡◌, refl, List, [], ◌∷◌, Bool, true, false, cond, length, get_or, drop, eqb}
use Rattle.std.proofs.Common.{sym, ◌∙◌, arith, length-drop, get_or-drop, eqb-true, eq-eqb}
use Rattle.std.proofs.Math.Logic.{by_cases}
use Rattle.std.proofs.Math.Decide.{dec_lt}
use Rattle.std.proofs.Math.ListN.{get_or-eq_default}
use Rattle.laws.specs.Bools.{and_both}
use Rattle.laws.specs.Runs.{all_by, all_at}
use Rattle.card.specs.Card.{zeros}

-- a test that holds at each index holds of the list
all_by_law : (g : ℕ → Bool) (xs : List ℕ) → ((i : ℕ) → i < length xs → g (get_or xs i 0) ≡ true) → all_by g xs ≡ true
unfolding all_by
all_by_law g [] h = refl
all_by_law g (x ∷ xs) h = and_both (h 0 (omega arith)) (all_by_law g xs (λ i l. h (suc i) (omega arith)))

-- the test on the unused entries says that each of them is zero, and back
pub zeros_at : (z : ℕ) (xs : List ℕ) → zeros z xs ≡ true → (i : ℕ) → z ≤ i → get_or xs i 0 ≡ 0
zeros_at z xs e i l = by_cases (dec_lt i (length xs)) inside (λ h. get_or-eq_default xs 0 (omega arith))
  where
    inside : i < length xs → get_or xs i 0 ≡ 0
    inside h =
        let index : z + (i - z) ≡ i = omega arith in
        let zero-here = all_at 0 (λ (v : ℕ). eqb v 0) (drop z xs) (i - z) e (omega (arith, length-drop z xs)) in
        rw index at (sym (get_or-drop z xs (i - z) 0) ∙ eqb-true (get_or (drop z xs) (i - z) 0) 0 zero-here)

pub at_zeros : (z : ℕ) (xs : List ℕ) → ((i : ℕ) → z ≤ i → get_or xs i 0 ≡ 0) → zeros z xs ≡ true
at_zeros z xs h = all_by_law (λ (v : ℕ). eqb v 0) (drop z xs) (λ i l. eq-eqb (get_or (drop z xs) i 0) 0 (get_or-drop z xs i 0 ∙ h (z + i) (omega arith)))

-- no refusal by a number is a test that holds
pub clear : (k : ℕ) → 0 < k → (t : Bool) → cond t 0 k ≡ 0 → t ≡ true
clear k p true e = refl
clear k p false e = absurd (omega arith)
