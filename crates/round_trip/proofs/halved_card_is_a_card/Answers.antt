use native.Mathlib.Omega.{arith}
use Rattle.round_trip.proofs.RoundTrip.{reader_legal, read_fewer}
use Rattle.round_trip.proofs.halved_card_is_a_card.Goals as goal

pub returns : goal.returns
returns c = λ s y. (reader_legal 2 s y, read_fewer 1 2 s (omega arith) y)
