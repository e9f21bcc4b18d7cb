use Prim.Native.Nat.{ℕ, ◌*◌, ◌/◌, ◌-◌, ◌≤◌, ◌<◌}
use mathlib.Core.Path.{◌≡◌, sym, ◌∙◌, ap}
use mathlib.Core.List.{List}
use native.Mathlib.Omega.{arith}
use native.Mathlib.Nat.{mul-le-mul_left, le-div_iff_mul-le}
use borrow.Author.Rules.{rules}
use Rattle.numbers.specs.Limits.{max_streams}
use Rattle.numbers.specs.Units.{parts}
use Rattle.pacing.specs.Streams.{overhead, two_sweeps, streams, tried, tried_from, tried_hit, tried_down, tried_none, time_fits, time_passes}
use Rattle.streams.proofs.count_streams.Statement.{statement}
use Rattle.streams.proofs.count_streams.Tie as tie

-- the overhead of so many blocks, each visited v times
abbrev visited : List ℕ → ℕ → ℕ → ℕ
visited table v k = overhead table (v * k)

-- every number above n has failed, and room is the time that the rate leaves
record Tries (rate worst2 : ℕ) (table : List ℕ) (bytes visits room n : ℕ) : Type 0 where
  few : visits * n ≤ max_streams
  left : room ≡ parts * bytes / rate
  same : tried rate worst2 (visited table visits) bytes n ≡ streams (max_streams / visits) rate worst2 (visited table visits) bytes

abbrev invariant-loop : tie.invariant-loop-n
invariant-loop rate worst2 table bytes visits room n₀ n = Tries rate worst2 table bytes visits room n

abbrev decreases-loop : tie.decreases-loop-n
decreases-loop rate worst2 table bytes visits room n₀ n = n

div-room : tie.Need-nonzero_div-room invariant-loop decreases-loop
div-room c = c.before.requires.1

loop-holds : tie.Need-loop-n-init invariant-loop decreases-loop
loop-holds c = let s = c.before.before in
    let a = s.args in
    let h = c.highest_tried-n.ensures in
    let over = visited a.table.now a.visits in
    let left = ap (λ (m : ℕ). m / a.rate) c.before.product.ensures in
    record {
      few = omega (arith, (le-div_iff_mul-le {k = a.visits} {x = c.highest_tried-n.result} {y = max_streams} s.requires.2).0 h.0);
      left = left;
      same = tried_from a.rate a.worst2 over a.bytes (max_streams / a.visits) _ h.0
          (λ k i u. time_passes a.rate a.worst2 over a.bytes k s.requires.1 (omega (arith, left, h.1 k i u)));
    }

fewer : (n : ℕ) → n - 1 ≤ n
fewer n = omega arith

two-sweeps-requires : tie.Need-two_sweeps-requires invariant-loop decreases-loop
two-sweeps-requires c κs = (c.before.before.before.before.requires.0, c.before.loop-n.invariant.few)

loop-again : tie.Need-loop-n-preserved invariant-loop decreases-loop
loop-again c = let s = c.before.before.before.before.before.before in
    let a = s.args in
    let l = c.before.before.before.loop-n in
    let over = visited a.table.now a.visits in
    let late : parts * a.bytes / a.rate < two_sweeps a.worst2 over l.n = omega (arith, l.invariant.left, c.before.two_sweeps.ensures) in
    record {
      few = omega (arith, l.invariant.few, mul-le-mul_left a.visits (fewer l.n));
      left = l.invariant.left;
      same = sym (tried_down a.rate a.worst2 over a.bytes l.n (omega arith)
          (time_passes a.rate a.worst2 over a.bytes l.n s.requires.1 late)) ∙ l.invariant.same;
    }

returns : tie.Need-returns-then-n-eq0 invariant-loop decreases-loop
returns c = let a = c.before.before.before.before.args in let l = c.before.loop-n in
    sym (tried_none a.rate a.worst2 (visited a.table.now a.visits) a.bytes l.n c.if-n-eq0.true) ∙ l.invariant.same

returns-2 : tie.Need-returns-then-two_sweeps-room invariant-loop decreases-loop
returns-2 c = let s = c.before.before.before.before.before.before in
    let a = s.args in
    let l = c.before.before.before.loop-n in
    let over = visited a.table.now a.visits in
    let soon : two_sweeps a.worst2 over l.n ≤ parts * a.bytes / a.rate = omega (arith, l.invariant.left, c.before.two_sweeps.ensures) in
    sym (tried_hit a.rate a.worst2 over a.bytes l.n (omega arith) (time_fits a.rate a.worst2 over a.bytes l.n s.requires.1 soon))
    ∙ l.invariant.same

pub count_streams_spec : {M : Type 1} → statement M
count_streams_spec =
    tie.close
    (tie.spec
    invariant-loop
    decreases-loop
    (λ c κs. search rules)
    div-room
    (λ c. c.before.requires.2)
    (λ c κs. search rules)
    loop-holds
    two-sweeps-requires
    (λ c. search rules)
    (λ c. omega arith)
    (λ c. omega arith)
    loop-again
    returns
    returns-2)
