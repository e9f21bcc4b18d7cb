use Rattle.card_table.proofs.TableWays.{Filled}
use Rattle.card_table.proofs.fill_straight.Given as goal

abbrev pub invariant-loop-entry : goal.invariant-loop-entry
invariant-loop-entry l = Filled l.hop l.back l.table l.value l.entry-index
