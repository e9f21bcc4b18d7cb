use mathlib.Core.Path.{refl}
use Rattle.laws.specs.Each.{zero_at}
use Rattle.soundness.proofs.places.unseen.Goals as goal

pub returns : goal.returns
returns c = (refl, zero_at 257)
