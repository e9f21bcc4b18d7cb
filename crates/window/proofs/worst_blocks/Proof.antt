use Prim.Native.Nat.{ℕ, ◌*◌, ◌≤◌, ◌<◌}
use mathlib.Core.Path.{sym, subst}
use native.Mathlib.Nat.{mul-pos, mul-le-mul, mul-le-mul_left}
use native.Mathlib.Omega.{arith}
use Rattle.placement.specs.Showing.{visits_few}
use Rattle.plan.specs.Plan.{showing_of}
use Rattle.plan.specs.Disk.{OnDisk}
use borrow.Author.Rules.{rules}
use Rattle.window.proofs.Ways.{worst_visits}
use Rattle.window.proofs.worst_blocks.Statement.{statement}
use Rattle.window.proofs.worst_blocks.Tie as tie

-- a block has one visit or two
few : (c : tie.After-visits_of-visits) → (0 < c.visits_of-visits.result) × (c.visits_of-visits.result ≤ 2)
few c = omega (arith, c.visits_of-visits.ensures, visits_few (showing_of c.args.showing))

-- all visits are on the disk
spread : (c : tie.After-visits_of-visits) → (let a = c.args in OnDisk a.sizes.now a.times.now a.total (c.visits_of-visits.result * a.blocks))
spread c = let s = c in
    subst (λ (v : ℕ). OnDisk s.args.sizes.now s.args.times.now s.args.total (v * s.args.blocks)) (sym c.visits_of-visits.ensures) s.requires.0

mul-all : tie.Need-overflow_mul-all
mul-all c = let d = spread c in omega (arith, d.room, d.whole, d.disk.zoned.small)

mul-row : tie.Need-overflow_mul-row
mul-row c = omega (arith, mul-le-mul (few c).1 c.requires.3)

last-place-requires : tie.Need-last_place-requires
last-place-requires c κs = let s = c in (mul-pos (few c).0 s.requires.2, mul-le-mul_left c.visits_of-visits.result s.requires.4)

worst-row-requires : tie.Need-worst_row-worst-requires
worst-row-requires c κs = let v = c in
    (spread c.before, omega (arith, mul-le-mul (few c.before).1 v.requires.3), c.last_place.ensures.1)

div-t11 : tie.Need-nonzero_div-result
div-t11 c = omega (arith, (few c.before.before.before).0)

returns : tie.Need-returns
returns c =
    let r = c in
    let p = c in
    let v = c in
    let s = c in
    let a = s.args in
    worst_visits (showing_of a.showing) a.sizes.now a.times.now a.total a.blocks a.count _ _ _ _ v.visits_of-visits.ensures s.requires.0.room
    s.requires.1 s.requires.2 s.requires.4 p.last_place.ensures.0 r.worst_row-worst.ensures

pub worst_blocks_spec : {M : Type 1} → statement M
worst_blocks_spec =
    tie.close (tie.spec (λ c κs. search rules) mul-all mul-row last-place-requires worst-row-requires div-t11 returns)
