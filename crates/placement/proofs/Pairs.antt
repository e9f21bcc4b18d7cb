-- Laws of what specs/Pairs defines.
use Prim.Native.Nat.{ℕ, suc, ◌+◌, ◌*◌, ◌-◌, ◌≤◌, ◌<◌}
use Rattle.std.specs.Prelude.{◌≡◌}
use Rattle.std.proofs.Math.Logic.{by_cases}
use native.Mathlib.Omega.{arith}
use Rattle.std.proofs.Math.Decide.{dec_le}
use Rattle.laws.specs.Greatest.{greatest_of, greatest_of_above, greatest_of_least}
use Rattle.placement.specs.Placement.{zigzag, zigzag_even, zigzag_odd, Laying, Falling}
use Rattle.placement.specs.Tally.{slow, fast, class_of, fast_few, slow_many, beside}
use Rattle.placement.specs.Pairs.{both_halves, all_pairs, worst_match}

module _ (P N : ℕ) (τ : ℕ → ℕ) (falls : Falling P τ) (l : ℕ → ℕ) (lay : Laying P (2 * N) l) (W : ℕ) (under : (b : ℕ) → b < N → both_halves τ l b ≤ W) where
  match_bound : (s f : ℕ) → s < f → f < P → (P - 1 - s) + (P - 1 - f) < 2 * N → τ s + τ f ≤ W
  match_bound s f sf fp h = by_cases (dec_le (τ s + τ f) W) (λ q. q)
      (λ q. absurd (omega (
        arith,
        all_pairs (λ b. class_of s f (l b)) N (λ b u. beside P (2 * N) l lay s f τ falls W sf fp (omega arith) (2 * b) (suc (2 * b)) (under b u)),
        fast_few P (2 * N) l lay s f,
        slow_many P (2 * N) l lay s f,
      )))

  pub zigzag_halves : 2 * N ≤ P → (b : ℕ) → b < N → both_halves τ (zigzag P (2 * N)) b ≤ W
  zigzag_halves np b u =
      let e : suc (2 * b) ≡ 2 * b + 1 = omega arith in
      rw (zigzag_even P (2 * N) b, e, zigzag_odd P (2 * N) b) (match_bound (P - 2 * N + b) (P - 1 - b) (omega arith) (omega arith) (omega arith))

-- NO MATCHING HAS A SMALLER GREATEST PAIR TIME
pub matching_best : (P N : ℕ) → 2 * N ≤ P → (τ : ℕ → ℕ) → Falling P τ → (l : ℕ → ℕ) → Laying P (2 * N) l → worst_match τ (zigzag P (2 * N)) N ≤ worst_match τ l N
unfolding worst_match
matching_best P N np τ falls l lay =
    greatest_of_least (both_halves τ (zigzag P (2 * N))) N _ (λ b u. zigzag_halves P N τ falls l lay _ (λ a v. greatest_of_above (both_halves τ l) N a v) np b u)
