use mathlib.Core.Path.{ap, ◌∙◌}
use Rattle.admission.specs.Moves.{move_scratch, leave_scratch_is}
use Rattle.admission.proofs.leave_scratch.Goals as goal

pub returns : goal.returns
returns c = let a = c.args in
    c.moved_scratch.ensures ∙ ap (move_scratch a.desk a.positions.now a.scratch.now) c.leave_of.ensures ∙ leave_scratch_is _ _ _ _
