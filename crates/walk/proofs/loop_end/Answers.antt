use Rattle.walk.proofs.Layings.{low_room, high_room, odd_run, early_run, turn_run, late_run}
use Rattle.walk.proofs.loop_end.Goals as goal

pub overflow_sub-low : goal.overflow_sub-low
overflow_sub-low c = low_room c.requires

pub returns-then-blocks-eq1 : goal.returns-then-blocks-eq1
returns-then-blocks-eq1 c = rw (c.min.ensures, c.first_past.ensures) (odd_run c.requires c.if-blocks-eq1.true)

pub overflow_sub-low-then-b-half : goal.overflow_sub-low-then-b-half
overflow_sub-low-then-b-half c = low_room c.requires

pub returns-then-b-half : goal.returns-then-b-half
returns-then-b-half c = rw (c.min-then-b-half.ensures, c.first_past-then-b-half.ensures) (early_run c.requires c.if-blocks-eq1.false c.if-b-half.true)

pub returns-then-b-half-2 : goal.returns-then-b-half-2
returns-then-b-half-2 c = rw c.min-then-b-half-2.ensures (turn_run c.requires)

pub overflow_sub-high : goal.overflow_sub-high
overflow_sub-high c = high_room c.requires

pub returns : goal.returns
returns c = rw (c.min-2.ensures, c.first_past-2.ensures)
    (late_run c.requires c.if-blocks-eq1.false c.if-b-half.false c.if-b-half-2.false)
