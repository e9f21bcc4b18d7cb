use Rattle.std.proofs.Common.{ℕ, List, ap, ◌∙◌, arith}
use Rattle.numbers.specs.Limits.{table_length}
use Rattle.card_field.specs.declared.Rule.TheVariants.{Overhead}
use Rattle.card_field.specs.Ranges.{fault_of}
use Rattle.card_field.specs.Figure.{field_in}
use Rattle.card_table.specs.Table.{last_entry}
use Rattle.card.specs.Read.{then_field, row_from, entries_from}
use Rattle.card_reader.proofs.ReaderWays.{row_done, row_stop, row_more}
use Rattle.card_reader.proofs.table.read_entries.Goals as goal

pub loop-k-init : goal.loop-k-init
unfolding entries_from
loop-k-init c =
    let a = c.args in
    λ go. ap (λ (t : List ℕ). row_from (fault_of Overhead) last_entry table_length a.card.now a.start 0 0 t go) c.requires

pub returns-in_default : goal.returns-in_default
returns-in_default c =
    let l = c.loop-k in
    λ go. row_stop (fault_of Overhead) last_entry _ l.at l.before l.k l.table go _ c.read_field-number.ensures (omega arith) _
    (ap field_in c.in_default.is)
    ∙ l.invariant go

pub loop-k-preserved : goal.loop-k-preserved
loop-k-preserved c =
    let l = c.loop-k in
    λ go. row_more (fault_of Overhead) last_entry _ l.at l.before l.k l.table go _ c.read_field-number.ensures _ (omega arith)
    (ap field_in c.in-Ok.is)
    ∙ l.invariant go

pub returns : goal.returns
unfolding then_field
returns c =
    let l = c.loop-k in
    λ go. row_done (fault_of Overhead) last_entry _ l.at l.before l.k l.table go _ (omega arith) ∙ l.invariant go
