use Prim.Native.Nat.{ℕ, ◌+◌, ◌*◌, ◌≤◌}
use mathlib.Core.Path.{◌∙◌, sym, ap}
use native.Mathlib.Omega.{arith}
use native.Mathlib.Nat.{mul-le-mul_left, mul-le-mul_right}
use Rattle.numbers.specs.Limits.{max_time, max_streams}
use Rattle.pacing.specs.Streams.{overhead_entry}
use borrow.Author.Rules.{rules}
use Rattle.streams.proofs.two_sweeps.Statement.{statement}
use Rattle.streams.proofs.two_sweeps.Tie as tie

-- the blocks of a sweep take at most what 256 visits do
blocks-time : (v n w : ℕ) → v * n ≤ max_streams → w ≤ 2 * (v * max_time) → n * w ≤ max_streams * (2 * max_time)
blocks-time v n w h l = omega (arith, mul-le-mul_left n l, mul-le-mul_right (2 * max_time) h)

mul-result : tie.Need-overflow_mul-result
mul-result c = let p = blocks-time c.args.visits c.args.n c.args.worst2 c.requires.1 c.requires.0.pair in omega arith

mul-result-2 : tie.Need-overflow_mul-result-2
mul-result-2 c = let s = c.before in
    let a = s.args in
    omega (arith, c.overhead.ensures, s.requires.0.moves (a.visits * a.n) (omega (arith, s.requires.1)))

add-result : tie.Need-overflow_add-result
add-result c = let s = c.before in
    let a = s.args in
    let q = blocks-time a.visits a.n a.worst2 s.requires.1 s.requires.0.pair in
    omega (arith, c.overhead.ensures, s.requires.0.moves (a.visits * a.n) (omega (arith, s.requires.1)))

returns : tie.Need-returns
returns c = let a = c.before.args in
    ap (λ (o : ℕ). a.n * a.worst2 + 2 * o) (c.overhead.ensures ∙ sym (overhead_entry a.table.now (a.visits * a.n) c.before.requires.1))

pub two_sweeps_spec : {M : Type 1} → statement M
two_sweeps_spec = tie.close (tie.spec mul-result (λ c. omega (arith, c.requires.1)) (λ c κs. c.requires.1) mul-result-2 add-result returns)
