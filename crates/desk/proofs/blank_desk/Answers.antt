use mathlib.Core.Path.{ap, ◌∙◌}
use Rattle.desk.specs.Desk.{fresh_desk, blank_desk}
use Rattle.desk.proofs.blank_desk.Goals as goal

pub returns : goal.returns
unfolding blank_desk
returns c = c.fresh_desk.ensures ∙ ap fresh_desk c.blank_plan.ensures
