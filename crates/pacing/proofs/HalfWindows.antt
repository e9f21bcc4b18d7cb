-- Laws of what specs/HalfWindows defines.
use Prim.Native.Nat.{ℕ, suc, ◌*◌, ◌-◌, ◌/◌, ◌≤◌, ◌<◌}
use Rattle.std.specs.Prelude.{◌≡◌}
use Rattle.std.proofs.Math.Path.{sym, ap}
use Rattle.std.proofs.Common.{◌∙◌}
use native.Mathlib.Omega.{arith}
use Rattle.laws.specs.Greatest.{greatest_of, greatest_of_same, earliest_of, earliest_unique, earliest_is, earliest_same}
use Rattle.laws.specs.Evens.{evens_greatest, evens_earliest}
use Rattle.placement.specs.Placement.{zigzag, Falling}
use Rattle.placement.specs.Showing.{Showing, one, loop, pairs, visits_of, laying, walked}
use Rattle.pacing.specs.Window.{places_of, window_time, worst_window, window_at}
use Rattle.pacing.specs.HalfWindows.{both_halves, window as window_in_specs, second_half as second_half_in_specs}

module _ (P N : ℕ) (np : 2 * N ≤ P) (τ : ℕ → ℕ) (falls : Falling P τ) (k : ℕ) (some : 0 < k) (within : k ≤ N) where
  abbrev window : ℕ → ℕ
  window = window_in_specs P N np τ falls k some within

  abbrev second_half : (b : ℕ) → suc (2 * b) < 2 * (suc N - k) - 1 → window (suc (2 * b)) ≤ window (2 * b)
  second_half = second_half_in_specs P N np τ falls k some within

  places_even : places_of one (2 * N) (2 * k) ≡ 2 * places_of pairs N k - 1
  places_even = omega arith

  -- THE WORST WINDOW OF k BLOCKS is that of 2 k halves
  pub halves_worst : worst_window one τ (zigzag P (2 * N)) (2 * N) (2 * k) ≡ worst_window pairs τ (zigzag P (2 * N)) N k
  unfolding worst_window
  halves_worst =
      ap (greatest_of window) places_even ∙ evens_greatest window (suc N - k) second_half
      ∙ greatest_of_same (λ b. window (2 * b)) _ (suc N - k) (λ b u. both_halves τ (zigzag P (2 * N)) N k b)

  -- its place is that of the block whose first half starts it
  pub halves_at : window_at one τ (zigzag P (2 * N)) (2 * N) (2 * k) ≡ 2 * window_at pairs τ (zigzag P (2 * N)) N k
  unfolding window_at
  halves_at =
      let n = suc N - k in
      let g = window_time pairs τ (zigzag P (2 * N)) N k in
      let e = earliest_same g (λ b. window (2 * b)) n _ (λ b u. sym (both_halves τ (zigzag P (2 * N)) N k b)) (earliest_is g n (omega arith)) in
      ap (earliest_of window) places_even
      ∙ earliest_unique window (2 * n - 1) _ _ (earliest_is window (2 * n - 1) (omega arith)) (evens_earliest window n second_half _ e)

-- ---- in every showing

module _ (x : Showing) (P N : ℕ) (np : visits_of x * N ≤ P) (τ : ℕ → ℕ) (falls : Falling P τ) (k : ℕ) (some : 0 < k) (within : k ≤ N) where
  -- the worst window of k blocks is that of all their visits
  pub walked_window : worst_window (walked x) τ (laying (walked x) P (visits_of x * N)) (visits_of x * N) (visits_of x * k) ≡ worst_window x τ (laying x P N) N k
  walked_window = go x np
    where
      n : 1 * N ≡ N
      n = omega arith

      j : 1 * k ≡ k
      j = omega arith

      go : (x : Showing) → visits_of x * N ≤ P
          → worst_window (walked x) τ (laying (walked x) P (visits_of x * N)) (visits_of x * N) (visits_of x * k) ≡ worst_window x τ (laying x P N) N k
      go one np = rw (n, j)
      go loop np = rw (n, j)
      go pairs np = halves_worst P N np τ falls k some within

  -- and starts at the block of the visit that the walk names
  pub walked_window_at : window_at (walked x) τ (laying (walked x) P (visits_of x * N)) (visits_of x * N) (visits_of x * k) / visits_of x
      ≡ window_at x τ (laying x P N) N k
  walked_window_at = go x np
    where
      n : 1 * N ≡ N
      n = omega arith

      j : 1 * k ≡ k
      j = omega arith

      go : (x : Showing) → visits_of x * N ≤ P
          → window_at (walked x) τ (laying (walked x) P (visits_of x * N)) (visits_of x * N) (visits_of x * k) / visits_of x ≡ window_at x τ (laying x P N) N k
      go one np = rw (n, j) (omega arith)
      go loop np = rw (n, j) (omega arith)
      go pairs np = omega (arith, halves_at P N np τ falls k some within)
