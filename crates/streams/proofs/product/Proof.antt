use mathlib.Core.Path.{◌∙◌}
use native.Mathlib.Omega.{arith}
use native.Mathlib.Nat.{mul_comm}
use borrow.Author.Rules.{rules}
use Rattle.streams.specs.Halves.{product_parts, product_fits}
use Rattle.streams.proofs.product.Statement.{statement}
use Rattle.streams.proofs.product.Tie as tie

returns : tie.Need-returns
returns c =
    let a = c.before.before.before.before.args in
    let parts = product_parts a.b a.a _ _ _ _ c.before.before.before.upper.ensures.0 c.before.lower.ensures.0
    (c.before.before.times_half.ensures ∙ mul_comm _ _) (c.times_half-2.ensures ∙ mul_comm _ _) in
    omega (arith, product_fits a.a a.b (omega arith) (omega arith))

add-result : tie.Need-overflow_add-result
add-result c = let a = c.before.before.before.before.args in omega (arith, returns c, product_fits a.a a.b (omega arith) (omega arith))

pub product_spec : {M : Type 1} → statement M
product_spec =
    tie.close
    (tie.spec (λ c κs. search rules) (λ c κs. search rules) (λ c κs. search rules) (λ c κs. search rules) add-result returns)
