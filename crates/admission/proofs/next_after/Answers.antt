use native.Mathlib.Omega.{arith}
use Rattle.admission.proofs.States.{joins_next, leaves_next}
use Rattle.admission.proofs.next_after.Goals as goal

pub overflow_mul-result : goal.overflow_mul-result
overflow_mul-result c = omega (arith, c.requires c.if-step.true)

pub overflow_add-result : goal.overflow_add-result
overflow_add-result c = omega (arith, c.requires c.if-step.true)

pub returns-then-step : goal.returns-then-step
returns-then-step c = joins_next _ c.if-step.true (c.requires c.if-step.true).1

pub returns : goal.returns
returns c = leaves_next _ c.if-step.false
