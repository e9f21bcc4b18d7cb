-- A written card lies in its buffer.
use Rattle.std.proofs.Common.{arith, ap, sym, length-take-le, replicate}
use Rattle.card.specs.declared.CardWritten.{CardWritten}
use Rattle.makercard.proofs.CardRoom.{written_short}
use Rattle.makercard.proofs.write_card.Goals as goal

pub slice_bounds-card-end : goal.slice_bounds-card-end
slice_bounds-card-end g c =
    let w = c.write_card-written in
    omega (arith, ap (λ (x : CardWritten). x.length) w.ensures.0, written_short c.args.figures (replicate 4096 0), w.auto)

pub slice_bounds-write_all-end : goal.slice_bounds-write_all-end
slice_bounds-write_all-end g c =
    let w = c.write_card-written in
    sym (length-take-le _ _ (omega (arith, ap (λ (x : CardWritten). x.length) w.ensures.0, written_short c.args.figures (replicate 4096 0), w.auto)))
