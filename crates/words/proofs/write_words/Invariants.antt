use Rattle.words.proofs.Loops.{Writing}
use Rattle.words.proofs.write_words.Given as goal

abbrev pub invariant-loop-i : goal.invariant-loop-i
invariant-loop-i l = Writing l.fn.list l.fn.start l.fn.a l.list l.i
