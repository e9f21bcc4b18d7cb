use mathlib.Core.Path.{refl}
use Rattle.plan.proofs.numbers_in.Goals as goal

pub returns : goal.returns
returns c = refl
