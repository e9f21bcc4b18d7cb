use Rattle.round_trip.specs.RoundTrip.{read_card_law}
use Rattle.round_trip.proofs.RoundTrip.{accepted_written}
use Rattle.round_trip.proofs.accepted_card_is_the_written_one.Goals as goal

pub returns : goal.returns
returns c = λ s y e. ((read_card_law 1 s y e).same, accepted_written s y e)
