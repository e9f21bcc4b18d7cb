use Rattle.plan.specs.Plan.{showing_of}
use Rattle.plan_strings.specs.Calls.{plan_scratch_answer, plan_scratch_string, positions_scratch_string}
use Rattle.plan_strings.proofs.plan_scratch.Goals as goal

pub returns : goal.returns
unfolding showing_of plan_scratch_answer plan_scratch_string positions_scratch_string
returns c = c.plan_showing.ensures
