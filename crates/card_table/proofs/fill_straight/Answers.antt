use Rattle.std.proofs.Common.{arith}
use Rattle.card_table.proofs.TableWays.{filled_all}
use Rattle.card_table.proofs.fill_straight.Goals as goal

pub returns : goal.returns
returns c = let l = c.loop-entry in filled_all _ _ l.table l.value l.entry-index l.invariant (omega arith)
