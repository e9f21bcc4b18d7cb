use Rattle.maker_claims.proofs.Accepted.{listing_answered}
use Rattle.maker_claims.proofs.maker_answers_its_figures.Goals as goal

pub returns : goal.returns
returns c = listing_answered
