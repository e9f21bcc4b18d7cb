use mathlib.Core.Path.{ap, ◌∙◌}
use Rattle.admission.specs.Moves.{move_scratch, join_scratch_is}
use Rattle.admission.proofs.join_scratch.Goals as goal

pub returns : goal.returns
returns c = let a = c.args in
    c.moved_scratch.ensures ∙ ap (move_scratch a.desk a.positions.now a.scratch.now) c.join_of.ensures ∙ join_scratch_is _ _ _ _ _ _
