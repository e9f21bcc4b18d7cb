use Prim.Native.Nat.{◌*◌, ◌≤◌}
use native.Mathlib.Omega.{arith}
use native.Mathlib.Nat.{mul-le-mul}
use Rattle.numbers.specs.Limits.{max_number, max_time, max_streams}
use Rattle.pacing.specs.Streams.{buffer_of}
use Rattle.streams.proofs.buffer_size.Goals as goal

pub overflow_mul-result : goal.overflow_mul-result
unfolding buffer_of
overflow_mul-result c = omega (arith, c.requires.2)

pub overflow_mul-n : goal.overflow_mul-n
overflow_mul-n c = let p : c.args.n * c.args.margin ≤ max_streams * (2 * max_time) = mul-le-mul c.requires.0 c.requires.1 in omega arith

pub overflow_add-result : goal.overflow_add-result
overflow_add-result c = let a = c.args in
    let q : a.n * a.margin ≤ max_streams * (2 * max_time) = mul-le-mul c.requires.0 c.requires.1 in
    let r : a.rate ≤ max_number = omega arith in
    let p : a.rate * (a.n * a.margin) ≤ max_number * (max_streams * (2 * max_time)) = mul-le-mul r q in
    omega (arith, c.product.ensures)

pub overflow_cast-result : goal.overflow_cast-result
unfolding buffer_of
overflow_cast-result c = omega (arith, c.requires.2, c.product.ensures)

pub overflow_add-result-2 : goal.overflow_add-result-2
unfolding buffer_of
overflow_add-result-2 c = omega (arith, c.requires.2, c.product.ensures)

pub returns : goal.returns
unfolding buffer_of
returns c = omega (arith, c.product.ensures)
