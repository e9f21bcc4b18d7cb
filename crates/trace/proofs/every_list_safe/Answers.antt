use Rattle.trace.proofs.Opening.{opening_safe}
use Rattle.trace.proofs.every_list_safe.Goals as goal

pub returns : goal.returns
returns c = opening_safe
