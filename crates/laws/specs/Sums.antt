-- A sum over a list (Runs), as a loop from the front adds it up.
-- Assumes nothing.
use Prim.Native.Nat.{ℕ, zero, suc, ◌+◌, ◌≤◌, ◌<◌}
use Rattle.std.specs.Prelude.{◌≡◌, length, get_or, take}
use Rattle.std.proofs.Math.Path.{refl}
use Rattle.std.proofs.Common.{ap, ◌∙◌, arith, add-one}
use mathlib.Core.List.{List, [], ◌∷◌}
use Rattle.laws.specs.Runs.{sum_by, sum_turn}

module _ {A : Type 0} (f : A → ℕ) where
  pub sum_none : (xs : List A) → sum_by f (take 0 xs) ≡ 0
  unfolding sum_by
  sum_none xs = refl

  pub sum_next : (d : A) (xs : List A) (i : ℕ) → i < length xs → sum_by f (take (i + 1) xs) ≡ sum_by f (take i xs) + f (get_or xs i d)
  sum_next d xs i h = ap (λ (k : ℕ). sum_by f (take k xs)) (add-one i) ∙ sum_turn d f xs i h

  -- a loop may stop where nothing more is added
  pub sum_rest : (d : A) (i : ℕ) (xs : List A) → ((j : ℕ) → i ≤ j → j < length xs → f (get_or xs j d) ≡ 0) → sum_by f (take i xs) ≡ sum_by f xs
  unfolding sum_by
  sum_rest d zero [] h = refl
  sum_rest d (suc i) [] h = refl
  sum_rest d zero (x ∷ xs) h = omega (arith, h 0 (omega arith) (omega arith), sum_rest d zero xs (λ j l m. h (suc j) (omega arith) (omega arith)))
  sum_rest d (suc i) (x ∷ xs) h = omega (arith, sum_rest d i xs (λ j l m. h (suc j) (omega arith) (omega arith)))
