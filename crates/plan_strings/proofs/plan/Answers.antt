use Rattle.plan.specs.Plan.{showing_of}
use Rattle.plan_strings.proofs.plan.Goals as goal

pub returns : goal.returns
unfolding showing_of
returns c = c.plan_showing.ensures
