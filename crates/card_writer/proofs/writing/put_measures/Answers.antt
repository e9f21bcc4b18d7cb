use Rattle.std.proofs.Common.{rules}
use Rattle.card_writer.proofs.WriterWays.{writes_start, writes_rest, writes_fits, writes_next, writes_last}
use Rattle.card_writer.proofs.writing.put_measures.Goals as goal

pub put_number-at-requires : goal.put_number-at-requires
put_number-at-requires c = writes_fits c.requires (writes_start _ _ _ _)

pub put_number-at-requires-2 : goal.put_number-at-requires-2
put_number-at-requires-2 c = writes_fits c.requires (writes_next c.requires (writes_start _ _ _ _) c.put_number-at.ensures)

pub put_table-requires : goal.put_table-requires
put_table-requires c =
    let rate = writes_next c.requires (writes_start _ _ _ _) c.put_number-at.ensures in
    (search rules, writes_rest c.requires (writes_next c.requires rate c.put_number-at-2.ensures))

pub returns : goal.returns
returns c =
    let rate = writes_next c.requires (writes_start _ _ _ _) c.put_number-at.ensures in
    writes_last (writes_next c.requires rate c.put_number-at-2.ensures) c.put_table.ensures
