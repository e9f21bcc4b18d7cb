-- Sums and tests over a list, and one turn of the loop that computes them from the front.
-- Assumes nothing.
use Prim.Native.Nat.{ℕ, zero, suc, ◌+◌, ◌<◌}
use Rattle.std.specs.Prelude.{◌≡◌, Bool, true, ◌&&◌, length, get_or, take}
use mathlib.Core.List.{List, [], ◌∷◌}
use native.Mathlib.Omega.{arith}
use Rattle.laws.specs.Bools.{and_left, and_right}

unfoldable pub sum_by {ℓ} : {A : Type ℓ} → (A → ℕ) → List A → ℕ
sum_by f [] = 0
sum_by f (x ∷ xs) = f x + sum_by f xs

unfoldable pub all_by {ℓ} : {A : Type ℓ} → (A → Bool) → List A → Bool
all_by f [] = true
all_by f (x ∷ xs) = f x && all_by f xs

module _ {A : Type 0} (d : A) where
  pub sum_turn : (f : A → ℕ) (xs : List A) (i : ℕ) → i < length xs → sum_by f (take (suc i) xs) ≡ sum_by f (take i xs) + f (get_or xs i d)
  unfolding sum_by
  sum_turn f [] i h = absurd (omega arith)
  sum_turn f (x ∷ xs) zero h = omega arith
  sum_turn f (x ∷ xs) (suc i) h = omega (arith, sum_turn f xs i (omega arith))

  -- a test that all pass holds of each
  pub all_at : (f : A → Bool) (xs : List A) (i : ℕ) → all_by f xs ≡ true → i < length xs → f (get_or xs i d) ≡ true
  unfolding all_by
  all_at f [] i e h = absurd (omega arith)
  all_at f (x ∷ xs) zero e h = and_left (f x) _ e
  all_at f (x ∷ xs) (suc i) e h = all_at f xs i (and_right (f x) _ e) (omega arith)
