use Rattle.std.proofs.Common.{arith}
use Rattle.words.specs.Laws.{words_length}
use Rattle.words.proofs.Loops.{write_start, write_room, write_more, write_end}
use Rattle.words.proofs.write_words.Goals as goal

pub loop-i-init : goal.loop-i-init
loop-i-init c = write_start _ _ _

pub put_word-requires : goal.put_word-requires
put_word-requires c =
    let room = write_room _ _ _ _ _ c.loop-i.invariant in omega (arith, words_length c.args.list.now)

pub loop-i-preserved : goal.loop-i-preserved
loop-i-preserved c = write_more _ _ _ _ _ c.loop-i.i c.loop-i.invariant (omega arith) c.put_word.ensures

pub returns : goal.returns
returns c = write_end _ _ _ _ _ c.loop-i.invariant (omega arith)
