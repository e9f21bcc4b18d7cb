-- The code's way to the worst window: two walks over the film that go round, one k blocks ahead of the other.
use Rattle.std.specs.Prelude.{ℕ, zero, suc, ◌+◌, ◌*◌, ◌-◌, ◌≤◌, ◌<◌, ◌≡◌, List}
use Rattle.laws.specs.Greatest.{Peak}
use Rattle.numbers.specs.Limits.{max_positions, max_time, max_window}
use Rattle.placement.specs.Circle.{round}
use Rattle.placement.specs.Showing.{loop}
use Rattle.placement.specs.Zones.{time_at}
use Rattle.pacing.specs.Film.{span}
use Rattle.pacing.specs.Laid.{laid_film}
use Rattle.worst_pair.specs.declared.Pair.{Pair}
use Rattle.walk.specs.declared.Walk.{Walk}
use Rattle.walk.specs.Walk.{Cursors, side_of}

-- the blocks of a row: those of a window, or its halves
abbrev pub max_row : ℕ
max_row = 2 * max_window

-- the k-th block after b, going round
unfoldable pub past : ℕ → ℕ → ℕ → ℕ
past N zero b = b
past N (suc k) b = past N k (round N b)

-- a walk over the film of N blocks laid by l that may go on to block b: where b is in its run, and is not the first block again, the run is
-- within the film and the walk has the times from b on
pub record Comes (ps ts : List ℕ) (l : ℕ → ℕ) (N : ℕ) (w : Walk) (b : ℕ) : Type 0 where
  pub cursors : Cursors ps w
  pub film : 0 < b → w.until ≤ N
  pub times : 0 < b → (k : ℕ) → b ≤ k → k < w.until → time_at ps ts (l k) ≡ side_of w.even w.odd k

-- a walk that stands at block b: b is in its run, which is within the film
pub record Stands (ps ts : List ℕ) (l : ℕ → ℕ) (N : ℕ) (w : Walk) (b : ℕ) : Type 0 where
  pub cursors : Cursors ps w
  pub within : b < w.until
  pub film : w.until ≤ N
  pub times : (k : ℕ) → b ≤ k → k < w.until → time_at ps ts (l k) ≡ side_of w.even w.odd k

-- the time of k blocks in a row, b the first, going round
abbrev pub row_time : List ℕ → List ℕ → (ℕ → ℕ) → ℕ → ℕ → ℕ → ℕ
row_time ps ts l N k b = span (laid_film loop (time_at ps ts) l N) k b

-- rows that slide on from block from to block to, within a run of either walk, g b the time of the row that starts at block b: block a comes in as
-- block b goes out, front as from does; sum is the time of the row at from, and worst the worst up to it
pub record Slides (g : ℕ → ℕ) (ahead behind : Walk) (front from to sum : ℕ) (worst : Pair) : Type 0 where
  pub order : from ≤ to
  pub fits : front + (to - from) ≤ max_positions
  pub small : (b : ℕ) → from ≤ b → b ≤ to → g b ≤ max_row * max_time
  pub quick : (a b : ℕ) → from ≤ b → b < to → a + from ≡ front + b → side_of ahead.even ahead.odd a ≤ max_time
  pub turn : (a b : ℕ) → from ≤ b → b < to → a + from ≡ front + b
      → g (suc b) + side_of behind.even behind.odd b ≡ g b + side_of ahead.even ahead.odd a
  pub time : sum ≡ g from
  pub found : Peak g (suc from) worst.first worst.time
