-- The card of the figures is in the buffer, and both planners are compared on it.
use Rattle.std.proofs.Common.{◌+◌, ◌∙◌, sym, ap, arith, length-take-le, replicate}
use mathlib.Core.Path.{ap₂}
use Rattle.placement.specs.Showing.{one, loop}
use Rattle.compare_planners.specs.Compare.{unequal_on}
use Rattle.compare_planners.specs.Agree.{written_length, written_card_law, written_short}
use Rattle.compare_planners.proofs.compare.compare_card.Goals as goal

pub slice_bounds-out-end : goal.slice_bounds-out-end
slice_bounds-out-end c =
    let f = c.args.figures in
    let w = c.write_card-written in
    let long = written_length f c.requires.legal (replicate 4096 0) (omega arith) w.result w.ensures.0 in
    written_short f c.requires.legal (replicate 4096 0) (omega arith) w.new.out w.result.length w.ensures.1 long

pub slice_bounds-compare_once-end : goal.slice_bounds-compare_once-end
slice_bounds-compare_once-end c =
    let f = c.args.figures in
    let w = c.write_card-written in
    let long = written_length f c.requires.legal (replicate 4096 0) (omega arith) w.result w.ensures.0 in
    sym (length-take-le _ _ (written_short f c.requires.legal (replicate 4096 0) (omega arith) w.new.out w.result.length w.ensures.1 long))

pub slice_bounds-out-end-2 : goal.slice_bounds-out-end-2
slice_bounds-out-end-2 c =
    let f = c.args.figures in
    let w = c.write_card-written in
    let long = written_length f c.requires.legal (replicate 4096 0) (omega arith) w.result w.ensures.0 in
    written_short f c.requires.legal (replicate 4096 0) (omega arith) w.new.out w.result.length w.ensures.1 long

pub slice_bounds-compare_loop-end : goal.slice_bounds-compare_loop-end
slice_bounds-compare_loop-end c =
    let f = c.args.figures in
    let w = c.write_card-written in
    let long = written_length f c.requires.legal (replicate 4096 0) (omega arith) w.result w.ensures.0 in
    sym (length-take-le _ _ (written_short f c.requires.legal (replicate 4096 0) (omega arith) w.new.out w.result.length w.ensures.1 long))

pub returns : goal.returns
returns c =
    let f = c.args.figures in
    let w = c.write_card-written in
    let long = written_length f c.requires.legal (replicate 4096 0) (omega arith) w.result w.ensures.0 in
    let card = written_card_law f c.requires.legal (replicate 4096 0) (omega arith) w.new.out w.result.length w.ensures.1 long in
    ap₂ ◌+◌ (c.compare_once.ensures.0 ∙ ap (unequal_on one) card) (c.compare_loop.ensures.0 ∙ ap (unequal_on loop) card)
