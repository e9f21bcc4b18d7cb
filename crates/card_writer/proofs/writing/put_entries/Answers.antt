use Rattle.std.proofs.Common.{ℕ, ◌+◌, ◌<◌, List, ◌∷◌, length, get_or, drop, arith}
use Rattle.std.specs.Prelude.{Bool}
use Rattle.card_writer.proofs.WriterWays.{Writes, writes_start, writes_fits, writes_next, writes_done, drop_here, drop_none}
use Rattle.card_writer.proofs.writing.put_entries.Goals as goal

-- what is left to put where an entry begins
entry_left : {write : Bool} {out x table : List ℕ} {start at k : ℕ} → k < length table → Writes write out start table x at (drop k table)
    → Writes write out start table x at (get_or table k 0 ∷ drop (k + 1) table)
entry_left {table = table} {k = k} h w = rw (drop_here table k h) at w

pub loop-entry-init : goal.loop-entry-init
loop-entry-init c = writes_start _ _ _ _

pub put_number-at-requires : goal.put_number-at-requires
put_number-at-requires c = writes_fits c.requires.1 (entry_left (omega arith) c.loop-entry.invariant)

pub loop-entry-preserved : goal.loop-entry-preserved
loop-entry-preserved c = writes_next c.requires.1 (entry_left (omega arith) c.loop-entry.invariant) c.put_number-at.ensures

pub returns : goal.returns
returns c = writes_done (rw (drop_none c.args.table.now c.loop-entry.entry-index (omega arith)) at c.loop-entry.invariant)
