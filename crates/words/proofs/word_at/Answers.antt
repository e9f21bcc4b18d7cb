use Rattle.std.proofs.Common.{sym, ◌∙◌, arith}
use Rattle.words.specs.Laws.{words_length, word_bytes}
use Rattle.words.proofs.word_at.Goals as goal

pub returns : goal.returns
returns c = c.number_at.ensures ∙ sym (word_bytes c.args.list.now c.args.i (omega (arith, words_length c.args.list.now)))
