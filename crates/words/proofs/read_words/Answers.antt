use Rattle.std.proofs.Common.{arith}
use Rattle.words.specs.Laws.{words_length}
use Rattle.words.proofs.Loops.{read_start, read_more, read_end}
use Rattle.words.proofs.read_words.Goals as goal

pub overflow_add-start : goal.overflow_add-start
overflow_add-start c = omega (arith, words_length c.args.list.now)

pub loop-i-init : goal.loop-i-init
loop-i-init c = read_start _ _ _

pub loop-i-preserved : goal.loop-i-preserved
loop-i-preserved c =
    let l = c.loop-i in read_more _ c.args.start _ l.out l.i _ c.requires l.invariant (omega arith) c.word_at.ensures

pub returns : goal.returns
returns c = read_end _ _ _ _ _ c.loop-i.invariant (omega arith)
