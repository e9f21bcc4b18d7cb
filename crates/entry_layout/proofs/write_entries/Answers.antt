use Rattle.std.proofs.Common.{arith}
use Rattle.words.specs.Laws.{words_length}
use Rattle.entry_layout.proofs.EntryLoop.{entries_start, entries_more, entries_end}
use Rattle.entry_layout.proofs.write_entries.Goals as goal

pub loop-i-init : goal.loop-i-init
loop-i-init c = entries_start _ _ _

pub write_words-requires : goal.write_words-requires
write_words-requires c = omega (arith, words_length c.args.out.now, c.loop-i.invariant.long)

pub loop-i-preserved : goal.loop-i-preserved
loop-i-preserved c = entries_more _ _ _ _ _ c.loop-i.invariant (omega arith) _ c.write_words.ensures

pub returns : goal.returns
returns c = entries_end _ _ _ _ _ c.loop-i.invariant (omega arith)
