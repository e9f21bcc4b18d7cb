use Rattle.maker_claims.proofs.Accepted.{accepts_legal}
use Rattle.maker_claims.proofs.maker_accepts_legal.Goals as goal

pub returns : goal.returns
returns c = accepts_legal
