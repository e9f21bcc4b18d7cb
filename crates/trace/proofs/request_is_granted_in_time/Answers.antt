use Rattle.trace.proofs.WaitLaws.{opening_in_time}
use Rattle.trace.proofs.request_is_granted_in_time.Goals as goal

pub returns : goal.returns
returns c = opening_in_time
