use Rattle.plan.specs.Check.{shows_loop, shows_pairs, shows_once}
use Rattle.plan_numbers.proofs.known_word.Goals as goal

pub returns-then-showing-eq-LOOP : goal.returns-then-showing-eq-LOOP
returns-then-showing-eq-LOOP c = rw (shows_loop _ c.if-showing-eq-LOOP.true)

pub returns-then-showing-eq-PAIRS : goal.returns-then-showing-eq-PAIRS
returns-then-showing-eq-PAIRS c = rw (shows_pairs _ c.if-showing-eq-PAIRS.true)

pub returns : goal.returns
returns c = rw (shows_once _ c.if-showing-eq-LOOP.false c.if-showing-eq-PAIRS.false)
