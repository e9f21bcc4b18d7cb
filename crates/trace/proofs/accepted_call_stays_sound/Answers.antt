use Rattle.trace.proofs.Opening.{accepted_sound}
use Rattle.trace.proofs.accepted_call_stays_sound.Goals as goal

pub returns : goal.returns
returns c = accepted_sound
