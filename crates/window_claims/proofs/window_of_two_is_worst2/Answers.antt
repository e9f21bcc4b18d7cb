use Rattle.window_claims.specs.WorstLaws.{two_is_worst2}
use Rattle.window_claims.proofs.window_of_two_is_worst2.Goals as goal

pub returns : goal.returns
returns c = two_is_worst2
