use Rattle.std.proofs.Common.{ap, ◌∙◌}
use Rattle.card_field.specs.Ranges.{fault_of}
use Rattle.card_field.specs.Figure.{field_in, on_fault}
use Rattle.card_field.proofs.FieldWays.{number_refused, number_judged, passed_on}
use Rattle.card_field.proofs.read_field.Goals as goal

pub returns-in_err-v : goal.returns-in_err-v
returns-in_err-v c = passed_on _ _ c.from_residual.ensures.1 ∙ number_refused _ _ _ c.number_at.ensures (ap field_in c.in_err-v.was)

pub returns : goal.returns
returns c =
    c.judged.ensures ∙ ap (λ k. on_fault k c.args.at c.in_ok-v.v c.in_ok-v.next) c.fault.ensures ∙ number_judged (fault_of c.args.rule c.args.bound) _ _ c.number_at.ensures (ap field_in c.in_ok-v.was)
