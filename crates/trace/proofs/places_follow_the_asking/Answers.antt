use Rattle.trace.proofs.AskingLaws.{opening_ordered}
use Rattle.trace.proofs.places_follow_the_asking.Goals as goal

pub returns : goal.returns
returns c = opening_ordered
