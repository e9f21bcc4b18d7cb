use Rattle.maker_claims.proofs.Accepted.{accepted_card_law}
use Rattle.maker_claims.proofs.accepted_figures_are_a_cards.Goals as goal

pub returns : goal.returns
returns c = accepted_card_law
