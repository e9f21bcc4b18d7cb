use Rattle.std.proofs.Common.{drop}
use Rattle.card_writer.proofs.WriterWays.{Writes}
use Rattle.card_writer.proofs.writing.put_entries.Given as goal

-- the entries before this one are put
abbrev pub invariant-loop-entry : goal.invariant-loop-entry
invariant-loop-entry l = Writes l.write l.fn.out l.fn.start l.fn.table l.out l.at (drop l.entry-index l.fn.table)
