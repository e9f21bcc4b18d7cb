use Rattle.words.specs.Words.{zero_words}
use Rattle.words.proofs.Loops.{Writing}
use Rattle.words.proofs.clear_words.Given as goal

abbrev pub invariant-loop-i : goal.invariant-loop-i
invariant-loop-i l = Writing l.fn.list l.fn.start (zero_words l.fn.count) l.list l.i
