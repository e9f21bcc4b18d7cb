use Rattle.round_trip.proofs.RoundTrip.{reader_legal}
use Rattle.round_trip.proofs.reader_accepts_legal.Goals as goal

pub returns : goal.returns
returns c = reader_legal 1
