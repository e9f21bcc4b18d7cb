use Rattle.std.proofs.Common.{◌≡◌, ℕ, ◌+◌, ◌-◌, ◌≤◌, List}
use Rattle.numbers.specs.Limits.{max_blocks}
use Rattle.card_field.specs.Ranges.{blocks_fault}
use Rattle.card.specs.declared.CardRead.{CardRead}
use Rattle.card.specs.Read.{row_from}
use Rattle.card_reader.proofs.shelf.read_lengths.Given as goal

-- the films before the i-th are read, and have so many blocks
abbrev pub invariant-loop-i : goal.invariant-loop-i
invariant-loop-i l = record {
  few : l.sofar ≤ max_blocks;
  same : (go : List ℕ → ℕ → CardRead)
      → row_from (blocks_fault l.visits l.total) ◌+◌ (l.films - l.i) l.card l.at l.sofar l.i l.blocks go
      ≡ row_from (blocks_fault l.visits l.total) ◌+◌ l.films l.card l.start 0 0 l.fn.blocks go;
}
