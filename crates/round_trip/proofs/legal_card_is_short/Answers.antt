use Rattle.round_trip.specs.Size.{legal_size}
use Rattle.round_trip.proofs.legal_card_is_short.Goals as goal

pub returns : goal.returns
returns c = legal_size 1
