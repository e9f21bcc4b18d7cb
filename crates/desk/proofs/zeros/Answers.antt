use mathlib.Core.Path.{refl}
use Rattle.desk.specs.Desk.{zeros}
use Rattle.desk.proofs.zeros.Goals as goal

pub returns : goal.returns
unfolding zeros
returns c = refl
