use Rattle.words.specs.Words.{words_of}
use Rattle.desk_layout.specs.Layout.{desk_in}
use Rattle.soundness.proofs.Seeing.{Seen}
use Rattle.soundness.proofs.places.each_once.Given as goal

-- the first i slots passed
abbrev pub invariant-loop-i : goal.invariant-loop-i
invariant-loop-i l = let d = desk_in (words_of l.desk) in Seen l.asked l.streams d.kinds d.places l.seen l.i
