use Rattle.std.proofs.Common.{sym, ap, ◌∙◌}
use Rattle.card_field.specs.Figure.{on_number, field_at, on_fault}
use Rattle.card_field.proofs.number_at.Goals as goal

pub returns-in-Value : goal.returns-in-Value
unfolding field_at on_number on_fault
returns-in-Value c = ap (on_number (λ v. 0) c.args.at) (sym c.in-Value.is ∙ c.read_number.ensures)

pub returns-in-CutOff : goal.returns-in-CutOff
unfolding field_at on_number
returns-in-CutOff c = ap (on_number (λ v. 0) c.args.at) (sym c.in-CutOff.is ∙ c.read_number.ensures)

pub returns-in-Malformed : goal.returns-in-Malformed
unfolding field_at on_number
returns-in-Malformed c = ap (on_number (λ v. 0) c.args.at) (sym c.in-Malformed.is ∙ c.read_number.ensures)
