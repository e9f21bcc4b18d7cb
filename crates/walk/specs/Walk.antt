-- The code's way to the times of a film's blocks: a walk in runs of blocks that lie in the same two zones.
use Rattle.std.specs.Prelude.{ℕ, suc, ◌+◌, ◌*◌, ◌-◌, ◌/◌, ◌%◌, ◌≤◌, ◌<◌, min, ◌≡◌, cond, List, eqb}
use Rattle.numbers.specs.Limits.{max_positions, max_time}
use Rattle.placement.specs.Zones.{total, time_at}
use Rattle.plan.specs.Disk.{Zoned}
use Rattle.zones.specs.declared.Zone.{Zone}
use Rattle.zones.specs.Cursor.{ZoneOf}
use Rattle.walk.specs.declared.Walk.{Walk}

-- the zone of block b of N, or of the block past the last, is looked for from a zone of a disk, of whose positions the first P are its
pub record Meets (ps : List ℕ) (P N : ℕ) (z : Zone) (b : ℕ) : Type 0 where
  pub zoned : Zoned ps
  pub zone : ZoneOf ps z
  pub whole : P ≤ total ps
  pub some : 0 < N
  pub room : N ≤ P
  pub block : b ≤ N

-- ---- a laying, as the walk needs it: the N highest of P positions, l the position of a block

-- of block b and the next one, the even one lies in the low zone and the odd one in the high zone
pub record Ends (P N : ℕ) (l : ℕ → ℕ) (b : ℕ) (low high : Zone) : Type 0 where
  pub block : b < N
  pub room : N ≤ P
  pub small : P ≤ max_positions
  pub low_first : low.first ≤ P
  pub low_from : low.first ≤ l (b + b % 2)
  pub low_to : l (b + b % 2) < low.end
  pub low_end : low.end ≤ max_positions
  pub high_first : high.first ≤ P
  pub high_from : high.first ≤ l (b + 1 - b % 2)
  pub high_to : l (b + 1 - b % 2) < high.end
  pub high_end : high.end ≤ max_positions

-- the first block that is an even one above a or an odd one above z
abbrev pub first_past : ℕ → ℕ → ℕ
first_past a z = min (2 * (a / 2) + 2) (2 * ((z + 1) / 2) + 1)

-- the blocks from b up to t lie in the same two zones: two or more blocks where b is not the last
pub record RunEnd (N : ℕ) (l : ℕ → ℕ) (b : ℕ) (low high : Zone) (t : ℕ) : Type 0 where
  pub ahead : min (b + 2) N ≤ t
  pub within : t ≤ N
  pub even : (k : ℕ) → b ≤ k → k < t → k % 2 ≡ 0 → (low.first ≤ l k) × (l k < low.end)
  pub odd : (k : ℕ) → b ≤ k → k < t → k % 2 ≡ 1 → (high.first ≤ l k) × (l k < high.end)

-- ---- a walk

pub record Cursors (ps : List ℕ) (w : Walk) : Type 0 where
  pub low : ZoneOf ps w.low
  pub high : ZoneOf ps w.high

-- what block b has: one for even numbers, one for odd numbers
abbrev pub side_of : ℕ → ℕ → ℕ → ℕ
side_of even odd b = cond (eqb (b % 2) 0) even odd

-- a walk at block b of N, laid by l: a run of blocks from b on, two or more where b is not the last, and their times; and that of the block
-- after b, past the last block too
pub record Runs (ps ts : List ℕ) (l : ℕ → ℕ) (N b : ℕ) (w : Walk) : Type 0 where
  pub cursors : Cursors ps w
  pub ahead : min (b + 2) N ≤ w.until
  pub within : w.until ≤ N
  pub times : (k : ℕ) → b ≤ k → k < w.until → time_at ps ts (l k) ≡ side_of w.even w.odd k
  pub pair : time_at ps ts (l b) + time_at ps ts (l (suc b)) ≡ w.even + w.odd
  pub even : w.even ≤ max_time
  pub odd : w.odd ≤ max_time
