use mathlib.Core.Path.{ap, ◌∙◌}
use native.Mathlib.Omega.{arith}
use Prim.Native.Nat.{ℕ, ◌*◌, ◌-◌}
use Rattle.placement.specs.Zones.{time_at}
use Rattle.floor.specs.Sources.{Placed}
use Rattle.floor.proofs.lead_from.Statement.{statement}
use Rattle.floor.proofs.lead_from.Tie as tie

-- where there is no list, the block has a place
placed : (c : tie.Else-listed) → (let a = c.args in Placed a.sizes.now a.times.now a.positions.now a.number)
placed c = c.requires.place c.if-listed.false

word-at-requires : tie.Need-word_at-requires
word-at-requires c κs = c.requires.list c.if-listed.true

returns : tie.Need-returns-then-listed
returns c = rw c.if-listed.true c.word_at.ensures

word-at-requires-2 : tie.Need-word_at-requires-2
word-at-requires-2 c κs = (placed c).here

time-at-requires : tie.Need-time_at-requires
time-at-requires c κs = let p = placed c.before in rw c.word_at-2.ensures (p.zoned, p.within)

lead-requires : tie.Need-lead-requires
lead-requires c κs =
    let p = placed c.before.before in
    rw (c.time_at.ensures, c.word_at-2.ensures) (omega (arith, p.quick))

returns-2 : tie.Need-returns
returns-2 c =
    let t = c in
    let e = c in
    let a = e.args in
    let time = t.time_at.ensures ∙ ap (time_at a.sizes.now a.times.now) t.word_at-2.ensures in
    rw e.if-listed.false (c.lead.ensures ∙ ap (λ (x : ℕ). 2 * x - a.worst2) time)

pub lead_from_spec : {M : Type 1} → statement M
lead_from_spec =
    tie.close
    (tie.spec word-at-requires returns word-at-requires-2 time-at-requires lead-requires returns-2)
