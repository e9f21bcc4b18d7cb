use Rattle.round_trip.specs.RoundTrip.{refused_blank}
use Rattle.round_trip.proofs.refused_card_has_no_figures.Goals as goal

pub returns : goal.returns
returns c = refused_blank 1
