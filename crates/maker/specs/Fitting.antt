-- What the code relies on where it makes the zones of the rows, and what it takes for a hop or a return.
use Rattle.std.specs.Prelude.{ℕ, ◌+◌, ◌≤◌, ◌<◌, cond, get_or, ltb}
use Rattle.numbers.specs.Limits.{max_zones, max_move, max_turns, max_switch, max_heads, max_block, max_cylinder, max_track}
use Rattle.maker_rows.specs.declared.Rows.{Rows}
use Rattle.maker_lines.specs.declared.Drive.{Drive}

-- the ranges that keep positions and times of all rows in 64 bits
pub record Fitting (d : Drive) (r : Rows) : Type 0 where
  pub turns : (0 < d.turns) × (d.turns ≤ max_turns)
  pub switch : d.switch ≤ max_switch
  pub heads : d.heads ≤ max_heads
  pub block : (0 < d.block) × (d.block ≤ max_block)
  pub few : r.count ≤ max_zones
  pub rows : (k : ℕ) → k < r.count → (get_or r.cylinders k 0 ≤ max_cylinder + 1) × (0 < get_or r.tracks k 0) × (get_or r.tracks k 0 ≤ max_track)

-- a hop or a return: one past its range counts as 0, which is out of range too
unfoldable pub move_in : ℕ → ℕ
move_in v = cond (ltb max_move v) 0 v
