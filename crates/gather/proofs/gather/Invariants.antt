use Rattle.words.specs.Words.{words_of}
use Rattle.desk_layout.specs.Layout.{desk_in}
use Rattle.gather.specs.Gather.{gathered}
use Rattle.gather.proofs.Collecting.{Collecting}
use Rattle.gather.proofs.gather.Given as goal

-- the next blocks of the first i slots are collected
abbrev pub invariant-loop-i : goal.invariant-loop-i
invariant-loop-i l =
    Collecting (desk_in (words_of l.desk)) l.positions l.visits l.kinds l.streams (gathered l.found l.spots l.others) l.i
