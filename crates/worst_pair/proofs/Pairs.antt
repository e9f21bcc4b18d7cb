-- The greatest time of two successive blocks, by runs of a walk.
-- Assumes nothing.
use Prim.Native.Nat.{ℕ, suc, ◌+◌, ◌-◌, ◌≤◌, ◌<◌}
use mathlib.Core.Path.{◌≡◌, sym, ap, ◌∙◌}
use mathlib.Core.Logic.{by_cases}
use mathlib.Core.List.{List}
use native.Mathlib.Omega.{arith}
use native.Mathlib.Decide.{dec_lt}
use Rattle.laws.specs.Greatest.{Peak, peak_higher, peak_lower}
use Rattle.placement.specs.Circle.{ring}
use Rattle.placement.specs.CircleBest.{round_last, round_next, ring_first, ring_round}
use Rattle.placement.specs.Showing.{loop, pair_time}
use Rattle.placement.specs.Zones.{time_at}
use Rattle.walk.specs.declared.Walk.{Walk}
use Rattle.walk.specs.Walk.{Runs}
use Rattle.walk.proofs.Runs.{both_sides}
use Rattle.worst_pair.specs.declared.Pair.{Pair}

-- the time of block b and the next
abbrev pub pair_of : List ℕ → List ℕ → (ℕ → ℕ) → ℕ → ℕ
pair_of ps ts l b = time_at ps ts (l b) + time_at ps ts (l (suc b))

-- one pair more or a run of them, as code takes in the worse
module _ (g : ℕ → ℕ) (b n v at w : ℕ) (found : Pair) (u : b < n) (same : (k : ℕ) → b ≤ k → k < n → g k ≡ v) (p : Peak g b at w) where
  pub peak_on : (w < v → (found.time ≡ v) × (found.first ≡ b)) → (v ≤ w → (found.time ≡ w) × (found.first ≡ at)) → Peak g n found.first found.time
  peak_on higher lower = by_cases (dec_lt w v)
      (λ h. rw ((higher h).0, (higher h).1) (peak_higher g b n v at w u same p h))
      (λ h. let l : v ≤ w = omega arith in rw ((lower l).0, (lower l).1) (peak_lower g b n v at w u same p l))

-- all pairs within a run take the same time
pub worst_run : {ps ts : List ℕ} {l : ℕ → ℕ} {N b : ℕ} {r : Walk} → Runs ps ts l N b r → (k : ℕ) → b ≤ k → k < r.until - 1
    → pair_of ps ts l k ≡ r.even + r.odd
worst_run {ps} {ts} {l} {N} {b} {r} h k i v =
    omega (arith, h.times k i (omega arith), h.times (suc k) (omega arith) (omega arith), both_sides r.even r.odd k)

-- the pairs of a loop but for its last, and that, which is of its last block and its first
module _ (ps ts : List ℕ) (P N : ℕ) (some : 0 < N) where
  pub before_last : (b : ℕ) → b < N - 1 → pair_of ps ts (ring P N) b ≡ pair_time loop (time_at ps ts) (ring P N) N b
  before_last b u = ap (λ (k : ℕ). time_at ps ts (ring P N b) + time_at ps ts (ring P N k)) (sym (round_next N b (omega arith)))

  pub last_pair : (k : ℕ) → N - 1 ≤ k → k < N → pair_time loop (time_at ps ts) (ring P N) N k ≡ pair_of ps ts (ring P N) (N - 1)
  last_pair k l u =
      let d : k ≡ N - 1 = omega arith in
      let e : suc (N - 1) ≡ N = omega arith in
      let first : ring P N 0 ≡ ring P N (suc (N - 1)) = ring_first P N ∙ sym (ring_round P N some) ∙ ap (ring P N) (sym e) in
      rw d (ap (λ (q : ℕ). time_at ps ts (ring P N (N - 1)) + time_at ps ts q) (ap (ring P N) (round_last N (N - 1) e) ∙ first))
