use Rattle.std.proofs.Common.{◌≡◌, ◌+◌, ◌-◌, ◌≤◌}
use Rattle.numbers.specs.Limits.{max_blocks}
use Rattle.card_field.specs.Ranges.{blocks_fault}
use Rattle.card_field.specs.Row.{row_fault}
use Rattle.card.proofs.judge.fault_of_lengths.Given as goal

-- the films before this one are judged, and have so many blocks
abbrev pub invariant-loop-n : goal.invariant-loop-n
invariant-loop-n l = record {
  few : l.sofar ≤ max_blocks;
  same : row_fault (blocks_fault l.visits l.total) ◌+◌ (l.films - l.n-index) l.sofar l.n-index l.blocks
      ≡ row_fault (blocks_fault l.visits l.total) ◌+◌ l.films 0 0 l.blocks;
}
