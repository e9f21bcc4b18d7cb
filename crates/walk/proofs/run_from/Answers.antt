use Prim.Native.Nat.{ℕ, ◌+◌, ◌-◌, ◌%◌, ◌≤◌, ◌<◌}
use native.Mathlib.Omega.{arith}
use Rattle.placement.specs.Showing.{laying}
use Rattle.plan.specs.Plan.{showing_of, walk_of}
use Rattle.walk.proofs.Layings.{laying_past}
use Rattle.walk.proofs.Runs.{run_is}
use Rattle.walk.proofs.run_from.Goals as goal

pub run_end-requires : goal.run_end-requires
run_end-requires c = let p = c.requires in
    let film = p.0 in
    let low = p.2 in
    let high = p.3 in
    let a = c.args in
    let below : (k : ℕ) → k ≤ a.blocks → laying (walk_of a.showing) a.total a.blocks k < a.total =
    λ k u. laying_past (showing_of a.showing) a.total a.blocks k film.some film.room u in
    record {
      block = p.1;
      room = film.room;
      small = omega (arith, film.whole, film.disk.zoned.small);
      low_first = omega (arith, low.from, below (a.b + a.b % 2) (omega (arith, p.1)));
      low_from = low.from;
      low_to = low.to;
      low_end = omega (arith, low.zone.on, film.disk.zoned.small);
      high_first = omega (arith, high.from, below (a.b + 1 - a.b % 2) (omega (arith, p.1)));
      high_from = high.from;
      high_to = high.to;
      high_end = omega (arith, high.zone.on, film.disk.zoned.small);
    }

pub returns : goal.returns
returns c = let a = c.args in
    let p = c.requires in
    run_is a.sizes.now a.times.now a.total a.blocks (laying (walk_of a.showing) a.total a.blocks) a.b p.0 a.low a.high _
    p.2 p.3 c.run_end.ensures
