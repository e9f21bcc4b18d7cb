-- The first i places are lowered.
use Rattle.move_strings.proofs.Lowered.{Lowered}
use Rattle.move_strings.proofs.lower_places.Given as goal

abbrev pub invariant-loop-i : goal.invariant-loop-i
invariant-loop-i l = Lowered l.fn.desk l.streams l.gone l.desk l.i
