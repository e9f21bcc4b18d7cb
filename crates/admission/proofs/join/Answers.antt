use mathlib.Core.Path.{ap, ◌∙◌}
use Rattle.admission.specs.Moves.{move_desk, join_is}
use Rattle.admission.proofs.join.Goals as goal

pub returns : goal.returns
returns c = let a = c.args in
    c.moved.ensures ∙ ap (move_desk a.desk a.positions.now a.leads.now) c.join_of.ensures ∙ join_is _ _ _ _ _ _
