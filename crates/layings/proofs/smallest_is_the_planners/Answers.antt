use Rattle.layings.proofs.Times.{least_is_planned}
use Rattle.layings.proofs.smallest_is_the_planners.Goals as goal

pub returns : goal.returns
returns c = least_is_planned
