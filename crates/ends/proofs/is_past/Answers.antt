use mathlib.Core.Path.{refl}
use Rattle.ends.proofs.is_past.Goals as goal

pub returns : goal.returns
returns c = refl
