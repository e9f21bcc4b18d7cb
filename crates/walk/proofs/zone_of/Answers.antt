use native.Mathlib.Omega.{arith}
use Rattle.walk.proofs.zone_of.Goals as goal

pub position_of-requires : goal.position_of-requires
position_of-requires c = let m = c.requires in (m.some, m.room, m.block, omega (arith, m.whole, m.zoned.small))

pub zone_near-requires : goal.zone_near-requires
zone_near-requires c = let m = c.requires in
    record { zoned = m.zoned; zone = m.zone; on = omega (arith, m.whole, c.position_of.ensures.to) }

pub returns : goal.returns
returns c = let h = c.zone_near.ensures in
    let e = c.position_of.ensures.is in
    record { zone = h.zone; from = omega (arith, e, h.from); to = omega (arith, e, h.to) }
