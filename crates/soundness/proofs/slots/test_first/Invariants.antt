use Rattle.words.specs.Words.{words_of}
use Rattle.desk_layout.specs.Layout.{desk_in}
use Rattle.soundness.proofs.Unset.{Unset}
use Rattle.soundness.proofs.slots.test_first.Given as goal

abbrev pub invariant-loop-i : goal.invariant-loop-i
invariant-loop-i g l = Unset (desk_in (words_of l.desk)) l.streams l.bits l.asked l.i
