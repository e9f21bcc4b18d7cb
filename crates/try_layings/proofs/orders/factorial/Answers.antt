use Rattle.std.proofs.Common.{arith, refl, sym, ap, ◌∙◌, ℕ, ◌+◌, ◌*◌, ◌≡◌}
use Rattle.layings.specs.Numbered.{factorial, factorial_next, factorial_most}
use Rattle.try_layings.proofs.orders.factorial.Goals as goal

-- one factor more
more : (n p : ℕ) → p ≡ factorial n → (n + 1) * p ≡ factorial (n + 1)
more n p e = ap (λ (q : ℕ). (n + 1) * q) e ∙ sym (factorial_next n)

pub loop-n-init : goal.loop-n-init
unfolding factorial
loop-n-init c = refl

pub overflow_mul-product : goal.overflow_mul-product
overflow_mul-product c =
    let l = c.loop-n in omega (arith, more l.n l.product l.invariant, factorial_most (l.n + 1) (omega arith))

pub loop-n-preserved : goal.loop-n-preserved
loop-n-preserved c = more c.loop-n.n c.loop-n.product c.loop-n.invariant

pub returns : goal.returns
returns c = let e : c.loop-n.n ≡ c.args.count = omega arith in c.loop-n.invariant ∙ ap factorial e
