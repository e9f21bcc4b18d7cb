use Rattle.compare_planners.specs.Agree.{accepted_both}
use Rattle.compare_planners.proofs.compare.no_small_card_is_refused.Goals as goal

pub returns : goal.returns
returns c = accepted_both
