-- The card that is made lies in its buffer.
use Rattle.std.proofs.Common.{arith, sym, length-take-le}
use Rattle.mkcard.proofs.WordWays.{made_fits}
use Rattle.mkcard.proofs.answer.Goals as goal

pub slice_bounds-card-end : goal.slice_bounds-card-end
slice_bounds-card-end g c = omega (arith, made_fits c.args.s _ c.in-Ok.ensures.0)

pub slice_bounds-write_all-end : goal.slice_bounds-write_all-end
slice_bounds-write_all-end g c = sym (length-take-le _ _ (omega (arith, made_fits c.args.s _ c.in-Ok.ensures.0)))
