use Prim.Native.Nat.{ℕ, ◌-◌, ◌<◌}
use mathlib.Core.Path.{◌≡◌, sym, ◌∙◌}
use mathlib.Core.List.{List}
use native.Mathlib.Omega.{arith}
use Rattle.laws.specs.Greatest.{Peak, peak_start, peak_earliest, peak_same}
use Rattle.placement.specs.Circle.{ring}
use Rattle.placement.specs.Showing.{Showing, one, loop, laying, worst_of, worst_at, pair_time, pairs_of, worst_pair}
use Rattle.placement.specs.Zones.{time_at}
use Rattle.plan.specs.Plan.{walk_of}
use Rattle.plan.specs.Check.{walks_loop, walks_once}
use Rattle.worst_pair.specs.declared.Pair.{Pair}
use Rattle.walk.specs.declared.Walk.{Walk}
use Rattle.walk.specs.Walk.{Cursors, Runs}
use Rattle.walk.specs.Meets.{meets}
use Rattle.worst_pair.proofs.Pairs.{pair_of, peak_on, worst_run, before_last, last_pair}
use borrow.Author.Rules.{rules}
use Rattle.worst_pair.proofs.worst_pair.Statement.{statement}
use Rattle.worst_pair.proofs.worst_pair.Tie as tie

-- the worst of the pairs before block b
record PairsBefore (ps ts : List ℕ) (l : ℕ → ℕ) (N : ℕ) (walk : Walk) (w : Pair) (b : ℕ) : Type 0 where
  cursors : Cursors ps walk
  within : b < N
  worst : Peak (pair_of ps ts l) b w.first w.time

abbrev invariant-loop : tie.invariant-loop-b
invariant-loop sizes times showing total blocks last walk₀ worst₀ b₀ walk worst b =
    PairsBefore sizes times (laying (walk_of showing) total blocks) blocks walk worst b

abbrev decreases-loop : tie.decreases-loop-b
decreases-loop sizes times showing total blocks last walk₀ worst₀ b₀ walk worst b = blocks - b

-- what a showing's pairs have in the end
measured : (x : Showing) (τ l : ℕ → ℕ) (N : ℕ) (w : Pair) → Peak (pair_time x τ l N) (pairs_of x N) w.first w.time
    → (w.time ≡ worst_of x τ l N) × (w.first ≡ worst_at x τ l N)
unfolding worst_at
measured x τ l N w p = (p.value ∙ sym (worst_pair x τ l N), peak_earliest (pair_time x τ l N) (pairs_of x N) w.first w.time p)

loop-holds : tie.Need-loop-b-init invariant-loop decreases-loop
loop-holds c = record { cursors = c.set_out-walk.ensures; within = c.requires.some; worst = peak_start _ }

zone-of-requires : tie.Need-zone_of-low-requires invariant-loop decreases-loop
zone-of-requires c κs = meets c.requires c.loop-b.invariant.cursors.low (omega arith)

zone-of-requires-2 : tie.Need-zone_of-high-requires invariant-loop decreases-loop
zone-of-requires-2 c κs = let l = c in meets l.requires l.loop-b.invariant.cursors.high (omega arith)

run-from-requires : tie.Need-run_from-walk-requires invariant-loop decreases-loop
run-from-requires c κs = let l = c in (l.requires, l.loop-b.invariant.within, c.zone_of-low.ensures, c.zone_of-high.ensures)

loop-again : tie.Need-loop-b-preserved invariant-loop decreases-loop
loop-again c = let w = c in
    let l = c in
    let r = w.run_from-walk.ensures in
    let s = c.worse-worst in
    record {
      cursors = r.cursors;
      within = omega arith;
      worst = peak_on _ l.loop-b.b (w.run_from-walk.result.until - 1) _ l.loop-b.worst.first l.loop-b.worst.time s.result (omega arith) (worst_run r)
          l.loop-b.invariant.worst s.ensures.0 s.ensures.1;
    }

-- all pairs but a loop's closing one
all : (c : tie.After-loop-b invariant-loop decreases-loop) → (let a = c.args in let w = c.loop-b.worst in
    Peak (pair_of a.sizes.now a.times.now (laying (walk_of a.showing) a.total a.blocks)) (a.blocks - 1) w.first w.time)
all c =
    let l = c in
    let e : l.loop-b.b ≡ l.args.blocks - 1 = omega arith in
    rw e at l.loop-b.invariant.worst

returns : tie.Need-returns-then-showing-ne-LOOP invariant-loop decreases-loop
returns c = let q = walks_once _ c.if-showing-ne-LOOP.true in
    let a = c.args in
    let w = c.loop-b.worst in
    rw q (measured one (time_at a.sizes.now a.times.now) (laying one a.total a.blocks) a.blocks w (rw q at (all c.before)))

returns-2 : tie.Need-returns invariant-loop decreases-loop
returns-2 c =
    let w = c in
    let x = c in
    let a = x.args in
    let f = x.loop-b.worst in
    let q = walks_loop _ x.if-showing-ne-LOOP.false in
    let τ = time_at a.sizes.now a.times.now in
    let some : 0 < a.blocks = x.requires.some in
    let r : Runs a.sizes.now a.times.now (ring a.total a.blocks) a.blocks (a.blocks - 1) w.walk_on-closing.result =
    rw q at w.walk_on-closing.ensures in
    let g = pair_time loop τ (ring a.total a.blocks) a.blocks in
    let p = peak_same _ g (a.blocks - 1) f.first f.time (before_last a.sizes.now a.times.now a.total a.blocks some)
    (rw q at (all c.before.before.before.before)) in
    rw q
    (measured loop τ (ring a.total a.blocks) a.blocks c.worse.result
    (peak_on g (a.blocks - 1) a.blocks _ f.first f.time c.worse.result (omega arith)
    (λ k l u. last_pair a.sizes.now a.times.now a.total a.blocks some k l u ∙ r.pair) p c.worse.ensures.0 c.worse.ensures.1))

pub worst_pair_spec : {M : Type 1} → statement M
worst_pair_spec =
    tie.close
    (tie.spec
    invariant-loop
    decreases-loop
    (λ c. search rules)
    (λ c κs. search rules)
    loop-holds
    (λ c. search rules)
    zone-of-requires
    (λ c. search rules)
    (λ c. search rules)
    zone-of-requires-2
    run-from-requires
    (λ c. omega arith)
    (λ c κs. search rules)
    (λ c. omega arith)
    (λ c. omega arith)
    loop-again
    returns
    (λ c κs. search rules)
    (λ c. omega arith)
    (λ c κs. search rules)
    returns-2)
