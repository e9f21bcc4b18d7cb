use mathlib.Core.Path.{refl}
use Rattle.try_all.specs.Answer.{not_tried}
use Rattle.try_all.proofs.refused.Goals as goal

pub returns : goal.returns
unfolding not_tried
returns c = refl
