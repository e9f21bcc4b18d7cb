-- Laws of what specs/Showing defines.
use Rattle.std.specs.Prelude.{ℕ, ◌*◌, ◌-◌, ◌/◌, ◌≤◌, ◌<◌, ◌≡◌}
use Rattle.std.proofs.Common.{sym, ap, subst}
use native.Mathlib.Omega.{arith}
use Rattle.std.proofs.Math.Nat.{le_antisymm}
use Rattle.laws.specs.Greatest.{greatest_of, greatest_of_above, greatest_of_least, Earliest, earliest_unique, earliest_is}
use Rattle.placement.specs.Placement.{zigzag, Laying, Falling}
use Rattle.placement.specs.Best.{placement_best}
use Rattle.placement.specs.CircleBest.{circle_best}
use Rattle.placement.specs.Pairs.{both_halves, match_is_worst, match_at}
use Rattle.placement.proofs.Pairs.{matching_best}
use Rattle.placement.specs.Showing.{Showing, visits_of, laying, laying_lays, laying_high, laying_first, one, loop, pairs, worst_of, walked, pair_time, worst_at, greatest_twice}

module _ (P N : ℕ) (τ : ℕ → ℕ) (falls : Falling P τ) where
  -- so block 0 of one visit a block is the slowest
  pub slowest_first : (x : Showing) → visits_of x ≡ 1 → N ≤ P → 0 < N → greatest_of (λ b. τ (laying x P N b)) N ≡ τ (P - N)
  unfolding Falling
  slowest_first x e np some =
      let d : visits_of x * N ≡ N = rw e (omega arith) in
      le_antisymm
      (greatest_of_least (λ b. τ (laying x P N b)) N _ (λ b u. falls (P - N) (laying x P N b)
      (omega (arith, laying_high x P N b (omega arith) (omega arith))) ((laying_lays x P N (omega arith)).into b (omega arith))))
      (rw (laying_first x P N, d) at (greatest_of_above (λ b. τ (laying x P N b)) N 0 some))

-- NO LAYING HAS A SMALLER WORST TIME (P10, T7.4), and no matching of halves (ticket 11)
pub laying_best : (x : Showing) (P N : ℕ) → visits_of x * N ≤ P → 1 < N → (τ : ℕ → ℕ) → Falling P τ → (l : ℕ → ℕ) → Laying P (visits_of x * N) l
    → worst_of x τ (laying x P N) N ≤ worst_of x τ l N
laying_best one P N np two τ falls l lay =
    let e : 1 * N ≡ N = omega arith in
    placement_best P N (omega arith) τ falls l (subst (λ (n : ℕ). Laying P n l) e lay)
laying_best loop P N np two τ falls l lay =
    let e : 1 * N ≡ N = omega arith in
    circle_best P N (omega arith) two τ falls l (subst (λ (n : ℕ). Laying P n l) e lay)
laying_best pairs P N np two τ falls l lay = omega (arith, matching_best P N np τ falls l lay)

module _ (P N : ℕ) (τ : ℕ → ℕ) (falls : Falling P τ) where
  -- what the walk finds for each visit of a block
  pub walked_worst_law : (x : Showing) → visits_of x * N ≤ P
      → visits_of x * worst_of (walked x) τ (laying (walked x) P (visits_of x * N)) (visits_of x * N) ≡ worst_of x τ (laying x P N) N
  walked_worst_law one np = let e : 1 * N ≡ N = omega arith in rw e (omega arith)
  walked_worst_law loop np = let e : 1 * N ≡ N = omega arith in rw e (omega arith)
  walked_worst_law pairs np = ap (λ (p : ℕ). 2 * p) (match_is_worst P N np τ falls)

  -- the block of the visit that it names
  pub walked_at_law : (x : Showing) → visits_of x * N ≤ P → 0 < N
      → worst_at (walked x) τ (laying (walked x) P (visits_of x * N)) (visits_of x * N) / visits_of x ≡ worst_at x τ (laying x P N) N
  unfolding worst_at
  walked_at_law one np some = let e : 1 * N ≡ N = omega arith in rw e (omega arith)
  walked_at_law loop np some = let e : 1 * N ≡ N = omega arith in rw e (omega arith)
  walked_at_law pairs np some =
      let l = zigzag P (2 * N) in
      let g = both_halves τ l in
      let e = earliest_is (pair_time pairs τ l N) N some in
      let once : Earliest g N (worst_at pairs τ l N) =
      record { below = e.below; reached = omega (arith, e.reached, greatest_twice g N); first = λ a u. omega (arith, e.first a u, greatest_twice g N) } in
      let same = earliest_unique (pair_time one τ l (2 * N)) (2 * N - 1) _ _ (earliest_is (pair_time one τ l (2 * N)) (2 * N - 1) (omega arith))
      (match_at P N np τ falls _ once) in
      omega (arith, same)
