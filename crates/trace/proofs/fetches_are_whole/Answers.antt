use Rattle.trace.proofs.FetchLaws.{begin_fetched}
use Rattle.trace.proofs.fetches_are_whole.Goals as goal

pub returns : goal.returns
returns c = begin_fetched
