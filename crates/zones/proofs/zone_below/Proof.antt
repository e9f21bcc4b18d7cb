use Prim.Native.Nat.{ℕ, ◌-◌, ◌≤◌, ◌<◌}
use mathlib.Core.List.{List}
use native.Mathlib.Omega.{arith}
use lib.ListN.{get_or}
use Rattle.zones.specs.declared.Zone.{Zone}
use Rattle.zones.specs.Cursor.{ZoneOf}
use Rattle.zones.proofs.Cursors.{zone_before}
use Rattle.zones.proofs.zone_below.Statement.{statement}
use Rattle.zones.proofs.zone_below.Tie as tie

-- no zone on the way ends before q
record Drops (ps : List ℕ) (q : ℕ) (z : Zone) : Type 0 where
  zone : ZoneOf ps z
  to : q < z.end

abbrev invariant-loop : tie.invariant-loop-zone
invariant-loop sizes q zone₀ zone = Drops sizes q zone

abbrev decreases-loop : tie.decreases-loop-zone
decreases-loop sizes q zone₀ zone = zone.index

-- the zone of a turn
next : (c : tie.After-struct_known-in-loop-zone-1 invariant-loop decreases-loop) → (let l = c.before.before.before in let ps = l.args.sizes.now in let z = l.loop-zone.zone in
    (0 < z.index) × (get_or ps (z.index - 1) 0 ≤ z.first)
    × ZoneOf ps (record { index = z.index - 1; first = z.first - get_or ps (z.index - 1) 0; end = z.first }))
next c =
    let l = c in
    let s = c in
    zone_before s.args.sizes.now s.requires.0.zoned l.loop-zone.zone l.loop-zone.invariant.zone (omega arith)

loop-holds : tie.Need-loop-zone-init invariant-loop decreases-loop
loop-holds c = record { zone = c.requires.0.zone; to = c.requires.1 }

sub-index : tie.Need-overflow_sub-index invariant-loop decreases-loop
sub-index c = (next c).0

element-copy-out-first : tie.Need-bounds-sizes-index invariant-loop decreases-loop
element-copy-out-first c = (next c.before).2.number

sub-first : tie.Need-overflow_sub-first invariant-loop decreases-loop
sub-first c = (next c.before.before).1

loop-less : tie.Need-loop-zone-smaller invariant-loop decreases-loop
loop-less c = let n = next c.before.before in omega arith

loop-again : tie.Need-loop-zone-preserved invariant-loop decreases-loop
loop-again c = record { zone = (next c.before.before).2; to = omega arith }

returns : tie.Need-returns invariant-loop decreases-loop
returns c = let i = c.loop-zone.invariant in record { zone = i.zone; from = omega arith; to = i.to }

pub zone_below_spec : {M : Type 1} → statement M
zone_below_spec =
    tie.close
    (tie.spec
    invariant-loop
    decreases-loop
    loop-holds
    sub-index
    (λ c. omega arith)
    element-copy-out-first
    sub-first
    loop-less
    loop-again
    returns)
