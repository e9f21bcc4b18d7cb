use mathlib.Core.Path.{refl}
use Rattle.plan.proofs.scalars_in.Goals as goal

pub returns : goal.returns
returns c = refl
