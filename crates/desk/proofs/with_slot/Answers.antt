use mathlib.Core.Path.{refl}
use Rattle.desk.specs.Records.{with_slot}
use Rattle.desk.proofs.with_slot.Goals as goal

pub returns : goal.returns
unfolding with_slot
returns c = refl
