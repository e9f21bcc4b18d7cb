use Rattle.std.proofs.Common.{arith}
use Rattle.decimal.proofs.DigitWays.{after, number_none, number_one, number_inside, number_zero, number_more}
use Rattle.decimal.proofs.read_number.Goals as goal

pub overflow_sub-count : goal.overflow_sub-count
overflow_sub-count c = (after _ _ _ c.read_digits-value.ensures).0

pub returns-then-count-eq0 : goal.returns-then-count-eq0
returns-then-count-eq0 c = number_none _ _ _ c.read_digits-value.ensures c.if-count-eq0.true

pub returns-then-count-eq1 : goal.returns-then-count-eq1
returns-then-count-eq1 c = number_one _ _ _ c.read_digits-value.ensures c.if-count-eq1.true

pub bounds-text-start : goal.bounds-text-start
bounds-text-start c = number_inside _ _ _ c.read_digits-value.ensures (omega arith)

pub returns-then-text-start-eq48 : goal.returns-then-text-start-eq48
returns-then-text-start-eq48 c = number_zero _ _ _ c.read_digits-value.ensures (omega arith) c.if-text-start-eq48.true

pub returns : goal.returns
returns c = number_more _ _ _ c.read_digits-value.ensures (omega arith) c.if-text-start-eq48.false
