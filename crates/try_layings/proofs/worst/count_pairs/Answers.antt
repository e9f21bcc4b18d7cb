use Rattle.plan.specs.Check.{walks_loop, walks_once}
use Rattle.try_layings.proofs.worst.count_pairs.Goals as goal

pub returns-then-showing-eq-LOOP : goal.returns-then-showing-eq-LOOP
returns-then-showing-eq-LOOP c = rw (walks_loop _ c.if-showing-eq-LOOP.true)

pub returns : goal.returns
returns c = rw (walks_once _ c.if-showing-eq-LOOP.false)
