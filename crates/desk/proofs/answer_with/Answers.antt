use mathlib.Core.Path.{refl}
use Rattle.desk.proofs.answer_with.Goals as goal

pub returns : goal.returns
returns c = refl
