use native.Mathlib.Omega.{arith}
use native.Mathlib.Nat.{mul-le-mul}
use Prim.Native.Nat.{◌*◌, ◌≤◌}
use Rattle.floor.proofs.low_water.Goals as goal

pub overflow_add-result : goal.overflow_add-result
overflow_add-result c =
    let a = c.args in
    let x : a.leads ≤ 4294967295 = omega arith in
    let q : a.rate * a.leads ≤ 10000000 * 4294967295 = mul-le-mul c.requires.1 x in
    omega arith
