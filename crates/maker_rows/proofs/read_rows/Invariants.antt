use Rattle.std.proofs.Common.{◌-◌, length}
use Rattle.maker_rows.proofs.RowWays.{Reading}
use Rattle.maker_rows.proofs.read_rows.Given as goal

abbrev pub invariant-loop-at : goal.invariant-loop-at
invariant-loop-at l = Reading l.fn.text l.fn.start l.rows l.first l.at

abbrev pub decreases-loop-at : goal.decreases-loop-at
decreases-loop-at l = length l.text - l.at
