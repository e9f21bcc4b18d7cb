use mathlib.Core.Path.{refl}
use Rattle.compare_planners.specs.Compare.{counted_with}
use Rattle.compare_planners.proofs.compare.counted.Goals as goal

pub returns : goal.returns
unfolding counted_with
returns c = refl
