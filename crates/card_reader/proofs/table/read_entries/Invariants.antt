use Rattle.std.proofs.Common.{◌≡◌, ℕ, ◌-◌, List}
use Rattle.numbers.specs.Limits.{table_length}
use Rattle.card_field.specs.declared.Rule.TheVariants.{Overhead}
use Rattle.card_field.specs.Ranges.{fault_of}
use Rattle.card_table.specs.Table.{last_entry}
use Rattle.card.specs.declared.CardRead.{CardRead}
use Rattle.card.specs.Read.{row_from, entries_from}
use Rattle.card_reader.proofs.table.read_entries.Given as goal

-- the entries before k are read
abbrev pub invariant-loop-k : goal.invariant-loop-k
invariant-loop-k l =
    (go : List ℕ → ℕ → CardRead)
    → row_from (fault_of Overhead) last_entry (table_length - l.k) l.card l.at l.before l.k l.table go ≡ entries_from l.card l.start go
