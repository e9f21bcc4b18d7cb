use Rattle.std.proofs.Common.{length, ap, ◌∙◌}
use Rattle.card_reader.proofs.ReaderWays.{blank_long, table_moves, table_entries}
use Rattle.card_reader.proofs.table.read_table.Goals as goal

pub read_moves-requires : goal.read_moves-requires
read_moves-requires c = ap length c.requires ∙ blank_long

pub returns-then-kind-eq-STRAIGHT : goal.returns-then-kind-eq-STRAIGHT
returns-then-kind-eq-STRAIGHT c = λ go. c.read_moves.ensures go ∙ table_moves _ _ _ go c.if-kind-eq-STRAIGHT.true

pub returns : goal.returns
returns c = λ go. c.read_entries.ensures go ∙ table_entries _ _ _ go c.if-kind-eq-STRAIGHT.false
