use native.Mathlib.Omega.{arith}
use Rattle.plan.specs.Check.{walks_loop, walks_once}
use Rattle.window.proofs.last_place.Goals as goal

pub returns-then-showing-eq-LOOP : goal.returns-then-showing-eq-LOOP
returns-then-showing-eq-LOOP c = rw (walks_loop _ c.if-showing-eq-LOOP.true) (omega arith)

pub returns : goal.returns
returns c = rw (walks_once _ c.if-showing-eq-LOOP.false) (omega arith)
