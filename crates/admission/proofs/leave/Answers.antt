use mathlib.Core.Path.{ap, ◌∙◌}
use Rattle.admission.specs.Moves.{move_desk, leave_is}
use Rattle.admission.proofs.leave.Goals as goal

pub returns : goal.returns
returns c = let a = c.args in
    c.moved.ensures ∙ ap (move_desk a.desk a.positions.now a.leads.now) c.leave_of.ensures ∙ leave_is _ _ _ _
