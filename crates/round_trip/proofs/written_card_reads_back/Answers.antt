use Rattle.round_trip.specs.RoundTrip.{legal_read}
use Rattle.round_trip.proofs.written_card_reads_back.Goals as goal

pub returns : goal.returns
returns c = legal_read 1
