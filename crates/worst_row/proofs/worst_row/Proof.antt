use Prim.Native.Nat.{ℕ, suc, ◌+◌, ◌-◌, ◌≤◌, ◌<◌}
use mathlib.Core.Path.{◌≡◌}
use mathlib.Core.List.{List}
use native.Mathlib.Omega.{arith}
use borrow.Author.Rules.{rules}
use Rattle.laws.specs.Greatest.{Peak}
use Rattle.placement.specs.Circle.{round}
use Rattle.placement.specs.CircleBest.{round_next}
use Rattle.placement.specs.Showing.{laying, walked_single}
use Rattle.plan.specs.Plan.{showing_of, walk_of}
use Rattle.walk.specs.declared.Walk.{Walk}
use Rattle.worst_row.specs.Rows.{past, Comes, row_time, Slides}
use Rattle.worst_row.specs.declared.Slid.{Slid}
use Rattle.worst_row.proofs.RowLaws.{past_below, past_turn, comes_first, comes_on, slides_run, peak_first}
use Rattle.worst_row.proofs.worst_row.Statement.{statement}
use Rattle.worst_row.proofs.worst_row.Tie as tie

-- the row of k blocks from block b on, and the worst up to it; one walk may go on to b and the other to the block past the row
record At (ps ts : List ℕ) (l : ℕ → ℕ) (N k last : ℕ) (ahead : Walk) (a : ℕ) (behind : Walk) (b : ℕ) (row : Slid) : Type 0 where
  front : Comes ps ts l N ahead a
  rear : Comes ps ts l N behind b
  apart : a ≡ past N k b
  within : b ≤ last
  time : row.sum ≡ row_time ps ts l N k b
  found : Peak (row_time ps ts l N k) (suc b) row.worst.first row.worst.time

abbrev invariant-loop : tie.invariant-loop-b
invariant-loop sizes times showing total blocks count last ahead₀ a₀ behind₀ b₀ row₀ ahead a behind b row =
    At sizes times (laying (walk_of showing) total blocks) blocks count last ahead a behind b row

abbrev decreases-loop : tie.decreases-loop-b
decreases-loop sizes times showing total blocks count last ahead₀ a₀ behind₀ b₀ row₀ ahead a behind b row = last - b

loop-holds : tie.Need-loop-b-init invariant-loop decreases-loop
loop-holds c = let r = c.first_row-first.ensures in
    record {
      front = r.0;
      rear = comes_first _ _ _ _ _ c.set_out-behind.ensures;
      apart = r.1.0;
      within = omega arith;
      time = r.1.1;
      found = rw r.1.1 (peak_first _);
    }

walk-to-requires : tie.Need-walk_to-ahead-requires invariant-loop decreases-loop
walk-to-requires c κs = let l = c.loop-b in
    let s = c in
    (s.requires.0, l.invariant.front, omega (arith, l.invariant.apart, past_below s.args.blocks s.args.count l.b (omega (arith, l.invariant.within, s.requires.2))))

walk-to-requires-2 : tie.Need-walk_to-behind-requires invariant-loop decreases-loop
walk-to-requires-2 c κs = let l = c.loop-b in
    let s = c in
    (s.requires.0, l.invariant.rear, omega (arith, l.invariant.within, s.requires.2))

add-min : tie.Need-overflow_add-b invariant-loop decreases-loop
add-min c = let l = c in
    let s = c in
    let f = s.requires.0 in
    omega (arith, c.walk_to-ahead.ensures.film, c.loop-b-test.true, s.requires.2, f.room, f.whole, f.disk.zoned.small)

-- how far the rows may slide: at least by a block, and neither walk leaves its run
record Far (N last : ℕ) (ahead : Walk) (a : ℕ) (behind : Walk) (b to : ℕ) : Type 0 where
  on : b < to
  within : to ≤ last
  near : a + (to - b) ≤ ahead.until
  far : to ≤ behind.until
  film : ahead.until ≤ N

far : (c : tie.After-min-to invariant-loop decreases-loop)
    → (let w = c.before.before.before in let l = w.loop-b in
    let a = w.args in
    Far a.blocks a.last w.walk_to-ahead.result l.a w.walk_to-behind.result l.b c.min-to.result)
far c = let w = c in
    let i = w.walk_to-ahead.ensures.within in
    let o = w.walk_to-behind.ensures.within in
    let u = w.loop-b-test.true in
    let e = c.min.ensures in
    let d = c.min-to.ensures in
    record { on = omega arith; within = omega arith; near = omega arith; far = omega arith; film = w.walk_to-ahead.ensures.film }

-- the rows slide
run : (c : tie.After-min-to invariant-loop decreases-loop)
    → (let w = c.before.before.before in let l = w.loop-b in
    let a = w.args in
    Slides (row_time a.sizes.now a.times.now (laying (walk_of a.showing) a.total a.blocks) a.blocks a.count)
    w.walk_to-ahead.result w.walk_to-behind.result l.a l.b c.min-to.result l.row.sum l.row.worst)
run c = let w = c in
    let l = w.loop-b in
    let s = c in
    let a = s.args in
    let f = far c in
    slides_run a.sizes.now a.times.now a.total a.blocks s.requires.0 (walk_of a.showing) (walked_single (showing_of a.showing))
    a.count s.requires.1 _ _ l.a l.b _
    w.walk_to-ahead.ensures w.walk_to-behind.ensures l.invariant.apart (omega (arith, f.on)) (omega (arith, f.within, s.requires.2)) f.near f.far _ _
    l.invariant.time l.invariant.found

slide-requires : tie.Need-slide-row-requires invariant-loop decreases-loop
slide-requires c κs = (_, run c)

add-following : tie.Need-overflow_add-a invariant-loop decreases-loop
add-following c = let f = far c.before in
    let w = c in
    let p = w.requires.0 in
    omega (arith, f.near, f.film, p.room, p.whole, p.disk.zoned.small)

following-requires : tie.Need-following-a-requires invariant-loop decreases-loop
following-requires c κs = let f = far c.before in omega (arith, f.on, f.near, f.film)

loop-again : tie.Need-loop-b-preserved invariant-loop decreases-loop
loop-again c = let w = c in
    let l = w.loop-b in
    let s = c in
    let a = s.args in
    let L = laying (walk_of a.showing) a.total a.blocks in
    let to = c.min-to.result in
    let f = far c.before.before in
    let r = c.slide-row.ensures _ (run c.before.before) in
    let inside : to < a.blocks = omega (arith, f.within, s.requires.2) in
    let e : to ≡ round a.blocks (to - 1) = omega (arith, round_next a.blocks (to - 1) (omega (arith, f.on))) in
    record {
      front = comes_on a.sizes.now a.times.now L a.blocks _ l.a (l.a + (to - l.b) - 1) _ w.walk_to-ahead.ensures
          (omega (arith, f.on)) (omega (arith, f.on, f.near, f.film)) c.following-a.ensures;
      rear = comes_on a.sizes.now a.times.now L a.blocks _ l.b (to - 1) _ w.walk_to-behind.ensures (omega (arith, f.on)) (omega arith) e;
      apart = past_turn a.blocks a.count l.a l.b to _ l.invariant.apart f.on inside (omega (arith, f.near, f.film)) c.following-a.ensures;
      within = f.within;
      time = r.0;
      found = r.1;
    }

returns : tie.Need-returns invariant-loop decreases-loop
returns c = let l = c.loop-b in
    let e : l.b ≡ c.args.last = omega (arith, l.invariant.within) in
    rw e at l.invariant.found

pub worst_row_spec : {M : Type 1} → statement M
worst_row_spec =
    tie.close
    (tie.spec
    invariant-loop
    decreases-loop
    (λ c κs. search rules)
    (λ c κs. c.requires.0.disk.zoned)
    loop-holds
    walk-to-requires
    walk-to-requires-2
    (λ c. omega (arith, c.walk_to-ahead.ensures.within))
    add-min
    (λ c κs. search rules)
    (λ c κs. search rules)
    slide-requires
    (λ c. omega (arith, (far c.before).on))
    add-following
    (λ c. omega (arith, (far c.before).on))
    following-requires
    (λ c. omega (arith, (far c.before.before).on, (far c.before.before).within))
    loop-again
    returns)
