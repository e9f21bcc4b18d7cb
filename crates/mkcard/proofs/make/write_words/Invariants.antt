-- What is written and what is left of the words is their card.
use Rattle.std.proofs.Common.{◌-◌, ◌*◌, ◌≤◌, true}
use Rattle.card_writer.proofs.WriterWays.{Writes}
use Rattle.mkcard.specs.Scan.{most_words, numbers_from}
use Rattle.mkcard.proofs.make.write_words.Given as goal

abbrev pub invariant-loop-value : goal.invariant-loop-value
invariant-loop-value l =
    let i = l.value-index in
    (l.at ≤ 5 * i) × Writes true l.initial.out 0 (numbers_from most_words 0 l.fn.s) l.out l.at (numbers_from (most_words - i) i l.fn.s)
