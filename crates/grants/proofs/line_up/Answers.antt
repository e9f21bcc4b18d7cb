use Rattle.std.proofs.Common.{get_or, arith}
use Rattle.std.proofs.lemmas.List.{get_or-take}
use Rattle.std.proofs.Math.Dec.{ltb}
use Rattle.laws.specs.Bools.{bit_le}
use Rattle.grants.proofs.Lining.{none_stand, one_stands, all_stand, place_within}
use Rattle.grants.proofs.line_up.Goals as goal

pub loop-i-init : goal.loop-i-init
loop-i-init c = (omega arith, λ q. none_stand _ _ q _ c.requires.2)

-- the place of slot i is one of the line's
pub bounds-line-place : goal.bounds-line-place
bounds-line-place c =
    let a = c.args in
    rw (get_or-take a.streams a.places.now c.loop-i.i 0 (omega arith)) (place_within _ _ c.requires.1 c.loop-i.i)

pub loop-i-preserved : goal.loop-i-preserved
loop-i-preserved c =
    let a = c.args in
    let l = c.loop-i in
    rw (c.asks-count.ensures, get_or-take a.streams a.places.now l.i 0 (omega arith)) (
      omega (arith, l.invariant.0, bit_le (ltb 0 (get_or a.places.now l.i 0))),
      λ q. one_stands _ _ q l.line l.count l.i (l.invariant.1 q) (omega arith) c.requires.0,
    )

pub returns : goal.returns
returns c =
    let l = c.loop-i in all_stand _ _ c.requires.1 _ l.count l.i (l.invariant.1 c.requires.1) (omega arith) c.requires.0
