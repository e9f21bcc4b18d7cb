use mathlib.Core.Path.{refl}
use Rattle.window.specs.Window.{refusal}
use Rattle.window.proofs.refused.Goals as goal

pub returns : goal.returns
unfolding refusal
returns c = refl
