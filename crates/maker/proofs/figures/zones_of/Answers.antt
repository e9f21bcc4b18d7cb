use Rattle.std.proofs.Common.{arith}
use Rattle.maker.proofs.FigureWays.{build_start, build_more, build_end}
use Rattle.maker.proofs.figures.zones_of.Goals as goal

pub loop-i-init : goal.loop-i-init
loop-i-init c = record { places = build_start _ _ _ c.zeros.ensures; speeds = build_start _ _ _ c.zeros-2.ensures }

pub loop-i-preserved : goal.loop-i-preserved
loop-i-preserved c =
    let l = c.loop-i in
    record {
      places = build_more _ _ _ _ l.invariant.places (omega arith) c.requires.few _ c.positions.ensures;
      speeds = build_more _ _ _ _ l.invariant.speeds (omega arith) c.requires.few _ c.time.ensures;
    }

pub returns : goal.returns
returns c =
    let l = c.loop-i in
    (build_end _ _ _ _ l.invariant.places (omega arith), build_end _ _ _ _ l.invariant.speeds (omega arith))
