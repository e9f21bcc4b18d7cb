-- Document 02, ticket 9: windows of k successive blocks of a film in every showing, and the worst of them.
-- Assumes nothing.
use Rattle.std.specs.Prelude.{ℕ, suc, ◌-◌}
use Rattle.laws.specs.Greatest.{greatest_of, earliest_of}
use Rattle.placement.specs.Showing.{Showing, one, loop, pairs}
use Rattle.pacing.specs.Film.{span}
use Rattle.pacing.specs.Laid.{laid_film}

-- how many places a window of k blocks of N has (T9.6): once 0 to N − k, in a loop 0 to N − 1
abbrev pub places_of : Showing → ℕ → ℕ → ℕ
places_of one N k = suc N - k
places_of loop N k = N
places_of pairs N k = suc N - k

-- the film of N blocks laid by l, τ being the time of a position
module _ (x : Showing) (τ l : ℕ → ℕ) (N k : ℕ) where
  -- the time of k successive blocks, b the first (T9.2); a loop goes on with its first block after its last (T9.6)
  abbrev pub window_time : ℕ → ℕ
  window_time b = span (laid_film x τ l N) k b

  -- the worst time of k successive blocks (T9.2)
  unfoldable pub worst_window : ℕ
  worst_window = greatest_of window_time (places_of x N k)

  -- the earliest place where it is reached (T9.3)
  unfoldable pub window_at : ℕ
  window_at = earliest_of window_time (places_of x N k)
