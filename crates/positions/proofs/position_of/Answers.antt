use Rattle.plan.specs.Check.{walks_loop, walks_once}
use Rattle.positions.proofs.position_of.Goals as goal

pub returns-then-showing-eq-LOOP : goal.returns-then-showing-eq-LOOP
returns-then-showing-eq-LOOP c = rw (walks_loop _ c.if-showing-eq-LOOP.true) c.loop_position.ensures

pub returns : goal.returns
returns c = rw (walks_once _ c.if-showing-eq-LOOP.false) c.once_position.ensures
