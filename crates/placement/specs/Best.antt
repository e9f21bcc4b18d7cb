-- The laying of document 01 is a laying, and none has a smaller worst time.
-- Assumes nothing.
use Prim.Native.Nat.{ℕ, suc, ◌+◌, ◌*◌, ◌-◌, ◌/◌, ◌%◌, ◌≤◌, ◌<◌}
use Rattle.std.specs.Prelude.{◌≡◌, Bool, cond}
use Rattle.std.proofs.Math.Path.{refl}
use Rattle.std.proofs.Common.{inl, inr}
use Rattle.std.proofs.Math.Logic.{by_cases}
use Rattle.std.proofs.Math.Bool.{true, false}
use native.Mathlib.Omega.{arith}
use Rattle.std.proofs.Math.Decide.{dec_le}
use Rattle.std.proofs.Math.Dec.{eqb}
use borrow.Author.Tests.{eqb-true, eqb-false}
use Rattle.laws.specs.Count.{count}
use Rattle.laws.specs.Greatest.{greatest_of_above, greatest_of_least}
use Rattle.placement.specs.Placement.{zigzag, Laying, Falling, worst_time}
use Rattle.placement.specs.Tally.{is_slow, is_fast, class_of, fast_few, slow_many, beside}
use Rattle.placement.specs.Row.{Balanced, row_balanced}

-- every block lies below P, and no two on one position
pub zigzag_laying : (P N : ℕ) → N ≤ P → Laying P N (zigzag P N)
unfolding zigzag
zigzag_laying P N np = record {
  into = λ b u. inside b u (eqb (b % 2) 0);
  apart = λ a b u v e. same a b u v (eqb (a % 2) 0) refl (eqb (b % 2) 0) refl e;
}
  where
    inside : (b : ℕ) → b < N → (x : Bool) → cond x (P - N + b / 2) (P - 1 - b / 2) < P
    inside b u true = omega arith
    inside b u false = omega arith

    same : (a b : ℕ) → a < N → b < N → (x : Bool) → eqb (a % 2) 0 ≡ x → (y : Bool) → eqb (b % 2) 0 ≡ y
        → cond x (P - N + a / 2) (P - 1 - a / 2) ≡ cond y (P - N + b / 2) (P - 1 - b / 2) → a ≡ b
    same a b u v true d true e q = omega (arith, eqb-true)
    same a b u v true d false e q = omega (arith, eqb-true (a % 2) 0 d, eqb-false (b % 2) 0 e)
    same a b u v false d true e q = omega (arith, eqb-false (a % 2) 0 d, eqb-true (b % 2) 0 e)
    same a b u v false d false e q = omega (arith, eqb-false (a % 2) 0 d, eqb-false (b % 2) 0 e)

-- the film takes the N highest positions
pub zigzag_high : (P N b : ℕ) → N ≤ P → b < N → P - N ≤ zigzag P N b
unfolding zigzag
zigzag_high P N b np u = go (eqb (b % 2) 0)
  where
    go : (x : Bool) → P - N ≤ cond x (P - N + b / 2) (P - 1 - b / 2)
    go true = omega arith
    go false = omega arith

module _ (P N : ℕ) (τ : ℕ → ℕ) (falls : Falling P τ) (l : ℕ → ℕ) (lay : Laying P N l) (W : ℕ) (under : (b : ℕ) → suc b < N → τ (l b) + τ (l (suc b)) ≤ W) where
  -- what bounds the successive pairs of any laying bounds τ s + τ f, where more blocks must be slow than can be fast
  pair_bound : (s f : ℕ) → s < f → f < P → (P - 1 - s) + (P - 1 - f) < N → 2 * (P - 1 - f) + 1 < N → τ s + τ f ≤ W
  pair_bound s f sf fp many few = by_cases (dec_le (τ s + τ f) W) (λ h. h)
      (λ h. absurd (end (row_balanced (λ b. class_of s f (l b)) N (omega arith)
      (λ b u. beside P N l lay s f τ falls W sf fp (omega arith) b (suc b) (under b u)))))
    where
      end : Balanced (count (λ b. is_slow (class_of s f (l b))) N) (count (λ b. is_fast (class_of s f (l b))) N) N → ⊥
      end (inl r) = omega (arith, fast_few P N l lay s f, slow_many P N l lay s f)
      end (inr r) = omega (arith, fast_few P N l lay s f)

  -- so it bounds every successive pair of document 01's laying
  pub zigzag_within : N ≤ P → (b : ℕ) → suc b < N → τ (zigzag P N b) + τ (zigzag P N (suc b)) ≤ W
  unfolding zigzag
  zigzag_within np b u = go (eqb (b % 2) 0) refl (eqb (suc b % 2) 0) refl
    where
      go : (x : Bool) → eqb (b % 2) 0 ≡ x → (y : Bool) → eqb (suc b % 2) 0 ≡ y
          → τ (cond x (P - N + b / 2) (P - 1 - b / 2)) + τ (cond y (P - N + suc b / 2) (P - 1 - suc b / 2)) ≤ W
      go true d true e = absurd (omega (arith, eqb-true))
      go true d false e = pair_bound (P - N + b / 2) (P - 1 - suc b / 2) (omega (arith, eqb-true)) (omega (arith, eqb-true)) (omega (arith, eqb-true))
          (omega (arith, eqb-true))
      go false d true e = omega (
        arith,
        pair_bound (P - N + suc b / 2) (P - 1 - b / 2) (omega (arith, eqb-true)) (omega (arith, eqb-true)) (omega (arith, eqb-true))
            (omega (arith, eqb-true)),
      )
      go false d false e = absurd (omega (arith, eqb-false (b % 2) 0 d, eqb-false (suc b % 2) 0 e))

-- no laying has a smaller worst time (P10)
pub placement_best : (P N : ℕ) → N ≤ P → (τ : ℕ → ℕ) → Falling P τ → (l : ℕ → ℕ) → Laying P N l → worst_time τ (zigzag P N) N ≤ worst_time τ l N
unfolding worst_time
placement_best P N np τ falls l lay =
    greatest_of_least (λ b. τ (zigzag P N b) + τ (zigzag P N (suc b))) (N - 1) (worst_time τ l N)
    (λ b u. zigzag_within P N τ falls l lay (worst_time τ l N)
    (λ a v. greatest_of_above (λ b. τ (l b) + τ (l (suc b))) (N - 1) a (omega arith)) np b (omega arith))
