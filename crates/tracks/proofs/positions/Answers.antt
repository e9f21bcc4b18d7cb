use Prim.Native.Nat.{ℕ, ◌/◌}
use mathlib.Core.Path.{ap, ◌∙◌}
use native.Mathlib.Omega.{arith}
use Rattle.tracks.specs.Tracks.{positions_in, narrowed}
use Rattle.tracks.specs.TracksLaws.{tracks_fit}
use Rattle.tracks.proofs.positions.Goals as goal

pub overflow_mul-heads : goal.overflow_mul-heads
overflow_mul-heads c = let a = c.args in omega (arith, tracks_fit a.heads a.cylinders c.requires.0 c.requires.2)

pub returns : goal.returns
unfolding positions_in
returns c = let a = c.args in c.narrow.ensures ∙ ap (λ (x : ℕ). narrowed (x / a.block)) c.product.ensures
