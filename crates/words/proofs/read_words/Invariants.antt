use Rattle.words.specs.Words.{words_of}
use Rattle.words.proofs.Loops.{Reading}
use Rattle.words.proofs.read_words.Given as goal

abbrev pub invariant-loop-i : goal.invariant-loop-i
invariant-loop-i l = Reading (words_of l.fn.list) l.fn.start l.fn.out l.out l.i
