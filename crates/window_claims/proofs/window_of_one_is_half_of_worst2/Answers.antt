use Rattle.window_claims.specs.WorstLaws.{one_is_half}
use Rattle.window_claims.proofs.window_of_one_is_half_of_worst2.Goals as goal

pub returns : goal.returns
returns c = one_is_half
