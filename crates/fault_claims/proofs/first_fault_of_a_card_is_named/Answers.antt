use Rattle.fault_claims.proofs.CardNamed.{card_fault}
use Rattle.fault_claims.proofs.first_fault_of_a_card_is_named.Goals as goal

pub returns : goal.returns
returns c = card_fault
