use Rattle.std.proofs.Common.{◌≡◌, ℕ, ◌+◌, ◌*◌, ◌<◌, true, false, get_or}
use Rattle.numbers.specs.Limits.{table_length}
use Rattle.numbers.specs.Refusals.{wrong_measure}
use Rattle.card_table.specs.Table.{is_line}
use Rattle.std.specs.Prelude.{cond}
use Rattle.card_table.proofs.fault_of_line.Given as goal

-- the entries before this one are those of hop and return, or some entry is not
abbrev pub invariant-loop-entry : goal.invariant-loop-entry
invariant-loop-entry l = record {
  next : l.expected ≡ l.hop * l.entry-index + l.back;
  on : l.on ≡ true → (k : ℕ) → k < l.entry-index → get_or l.table k 0 ≡ l.hop * k + l.back;
  off : l.on ≡ false → wrong_measure ≡ cond (is_line table_length 0 l.table l.hop l.back) 0 wrong_measure;
}
