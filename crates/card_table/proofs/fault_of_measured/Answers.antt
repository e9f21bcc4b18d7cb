use Rattle.card_table.proofs.TableWays.{measured_zero, measured_high, measured_fall}
use Rattle.card_table.proofs.fault_of_measured.Goals as goal

pub returns-then-table-eq0 : goal.returns-then-table-eq0
returns-then-table-eq0 c = measured_zero _ c.if-table-eq0.true

pub returns-then-table-gt-MAX_OVERHEAD : goal.returns-then-table-gt-MAX_OVERHEAD
returns-then-table-gt-MAX_OVERHEAD c = measured_high _ c.if-table-gt-MAX_OVERHEAD.true

pub returns : goal.returns
returns c = measured_fall _ c.if-table-eq0.false c.if-table-gt-MAX_OVERHEAD.false c.fault_of_fall.ensures
