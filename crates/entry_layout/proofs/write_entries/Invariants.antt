use Rattle.entry_layout.specs.Entries.{list_of}
use Rattle.entry_layout.proofs.EntryLoop.{EntriesWritten}
use Rattle.entry_layout.proofs.write_entries.Given as goal

abbrev pub invariant-loop-i : goal.invariant-loop-i
invariant-loop-i l = EntriesWritten l.count (list_of l.count l.positions l.slots l.blocks) l.initial.out l.out l.i
