use Rattle.std.proofs.Common.{arith}
use Rattle.maker_rows.proofs.RowWays.{reading_start, zone_facts, zone_after, reading_more, reading_stop, reading_end}
use Rattle.maker_rows.proofs.read_rows.Goals as goal

pub loop-at-init : goal.loop-at-init
loop-at-init c = reading_start _ _ _ c.no_rows-rows.ensures

pub returns-in-Err : goal.returns-in-Err
returns-in-Err c = reading_stop _ _ _ _ _ c.loop-at.invariant _ c.read_row.ensures c.loop-at-test.true c.in-Err.is

pub overflow_sub-last : goal.overflow_sub-last
overflow_sub-last c = (zone_facts _ _ _ _ _ c.loop-at.invariant _ c.read_row.ensures c.in-Ok.is).0

pub overflow_add-last : goal.overflow_add-last
overflow_add-last c = omega (arith, zone_facts _ _ _ _ _ c.loop-at.invariant _ c.read_row.ensures c.in-Ok.is)

pub overflow_add-first : goal.overflow_add-first
overflow_add-first c = omega (arith, zone_facts _ _ _ _ _ c.loop-at.invariant _ c.read_row.ensures c.in-Ok.is)

pub loop-at-smaller : goal.loop-at-smaller
loop-at-smaller c = omega (arith, zone_after _ _ _ _ _ c.loop-at.invariant _ c.read_row.ensures c.in-Ok.is)

pub loop-at-preserved : goal.loop-at-preserved
loop-at-preserved c =
    reading_more _ _ _ _ _ c.loop-at.invariant _ c.read_row.ensures c.in-Ok.is c.loop-at-test.true _ c.keep_row-rows.ensures

pub returns : goal.returns
returns c = reading_end _ _ _ _ _ c.loop-at.invariant c.loop-at-test.false
