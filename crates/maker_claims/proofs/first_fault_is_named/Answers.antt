use Rattle.maker_claims.proofs.Refused.{refused_fault}
use Rattle.maker_claims.proofs.first_fault_is_named.Goals as goal

pub returns : goal.returns
returns c = refused_fault
