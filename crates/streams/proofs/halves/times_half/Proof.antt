use native.Mathlib.Omega.{arith}
use borrow.Author.Rules.{rules}
use Rattle.streams.specs.Halves.{product_parts, product_fits}
use Rattle.streams.proofs.halves.times_half.Statement.{statement}
use Rattle.streams.proofs.halves.times_half.Tie as tie

returns : tie.Need-returns
returns c =
    let a = c.before.before.before.before.args in
    let parts = product_parts a.a a.b _ _ _ _ c.before.before.before.upper.ensures.0 c.before.lower.ensures.0
    c.before.before.times.ensures c.times-2.ensures in
    omega (arith, product_fits a.a a.b (omega arith) (omega arith))

add-result : tie.Need-overflow_add-result
add-result c = let a = c.before.before.before.before.args in omega (arith, returns c, product_fits a.a a.b (omega arith) (omega arith))

pub times_half_spec : {M : Type 1} → statement M
times_half_spec =
    tie.close
    (tie.spec (λ c κs. search rules) (λ c κs. search rules) (λ c κs. search rules) (λ c κs. search rules) add-result returns)
