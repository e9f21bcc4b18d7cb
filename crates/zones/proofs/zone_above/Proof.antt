use Prim.Native.Nat.{ℕ, ◌+◌, ◌-◌, ◌≤◌}
use mathlib.Core.List.{List}
use native.Mathlib.Omega.{arith}
use lib.ListN.{get_or}
use Rattle.zones.specs.declared.Zone.{Zone}
use Rattle.zones.specs.Cursor.{ZoneOf}
use Rattle.zones.proofs.Cursors.{zone_after}
use Rattle.zones.proofs.zone_above.Statement.{statement}
use Rattle.zones.proofs.zone_above.Tie as tie

-- no zone on the way begins after q
record Climbs (ps : List ℕ) (q : ℕ) (z : Zone) : Type 0 where
  zone : ZoneOf ps z
  from : z.first ≤ q

abbrev invariant-loop : tie.invariant-loop-zone
invariant-loop sizes q zone₀ zone = Climbs sizes q zone

abbrev decreases-loop : tie.decreases-loop-zone
decreases-loop sizes q zone₀ zone = 64 - zone.index

-- the zone of a turn
next : (c : tie.After-struct_known-in-loop-zone-1 invariant-loop decreases-loop) → (let l = c.before.before.before in let ps = l.args.sizes.now in let z = l.loop-zone.zone in
    ZoneOf ps (record { index = z.index + 1; first = z.end; end = z.end + get_or ps (z.index + 1) 0 }))
next c =
    let l = c in
    let s = c in
    zone_after s.args.sizes.now s.requires.0.zoned l.loop-zone.zone l.loop-zone.invariant.zone (omega arith)

loop-holds : tie.Need-loop-zone-init invariant-loop decreases-loop
loop-holds c = record { zone = c.requires.0.zone; from = c.requires.1 }

add-index : tie.Need-overflow_add-index invariant-loop decreases-loop
add-index c = let n = next c in omega arith

mul-end : tie.Need-offset_bounds-sizes-index invariant-loop decreases-loop
mul-end c = let n = next c in omega arith

element-copy-out-end : tie.Need-bounds-sizes-index invariant-loop decreases-loop
element-copy-out-end c = (next c.before).number

add-end : tie.Need-overflow_add-end invariant-loop decreases-loop
add-end c = let n = next c.before.before in omega arith

loop-less : tie.Need-loop-zone-smaller invariant-loop decreases-loop
loop-less c = let n = next c.before.before in omega arith

loop-again : tie.Need-loop-zone-preserved invariant-loop decreases-loop
loop-again c = record { zone = next c.before.before; from = omega arith }

returns : tie.Need-returns invariant-loop decreases-loop
returns c = let i = c.loop-zone.invariant in record { zone = i.zone; from = i.from; to = omega arith }

pub zone_above_spec : {M : Type 1} → statement M
zone_above_spec =
    tie.close
    (tie.spec
    invariant-loop
    decreases-loop
    loop-holds
    add-index
    mul-end
    element-copy-out-end
    add-end
    loop-less
    loop-again
    returns)
