use Rattle.std.proofs.Common.{◌∙◌}
use Rattle.card_table.proofs.TableWays.{table_straight, table_measured}
use Rattle.card_table.proofs.fault_of_table.Goals as goal

pub returns-then-kind-eq-STRAIGHT : goal.returns-then-kind-eq-STRAIGHT
returns-then-kind-eq-STRAIGHT c = c.fault_of_straight.ensures ∙ table_straight _ _ c.if-kind-eq-STRAIGHT.true

pub returns : goal.returns
returns c = c.fault_of_measured.ensures ∙ table_measured _ _ c.if-kind-eq-STRAIGHT.false
