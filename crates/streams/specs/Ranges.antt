-- The ranges that keep the formula of streams in 32 and 64 bits, for blocks of so many visits each.
use Rattle.std.specs.Prelude.{ℕ, ◌*◌, ◌≤◌, ◌<◌, List, get_or}
use Rattle.numbers.specs.Limits.{max_time, table_length, max_overhead}

pub record Ranges (visits worst2 : ℕ) (table : List ℕ) : Type 0 where
  pub pair : worst2 ≤ 2 * (visits * max_time)
  pub moves : (k : ℕ) → k < table_length → get_or table k 0 ≤ max_overhead
