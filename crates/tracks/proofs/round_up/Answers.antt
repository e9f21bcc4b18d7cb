use mathlib.Core.Path.{refl}
use Rattle.tracks.specs.Tracks.{rounded_up}
use Rattle.tracks.proofs.round_up.Goals as goal

pub returns : goal.returns
unfolding rounded_up
returns c = refl
