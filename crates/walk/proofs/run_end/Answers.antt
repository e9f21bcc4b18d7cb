use Rattle.plan.specs.Check.{walks_loop, walks_once}
use Rattle.walk.proofs.run_end.Goals as goal

pub loop_end-requires : goal.loop_end-requires
loop_end-requires c = rw (walks_loop _ c.if-showing-eq-LOOP.true) at c.requires

pub returns-then-showing-eq-LOOP : goal.returns-then-showing-eq-LOOP
returns-then-showing-eq-LOOP c = rw (walks_loop _ c.if-showing-eq-LOOP.true) c.loop_end.ensures

pub once_end-requires : goal.once_end-requires
once_end-requires c = rw (walks_once _ c.if-showing-eq-LOOP.false) at c.requires

pub returns : goal.returns
returns c = rw (walks_once _ c.if-showing-eq-LOOP.false) c.once_end.ensures
