-- Each word's number is the next of the card; after the last word the card is written.
use Rattle.std.proofs.Common.{◌+◌, ◌-◌, ◌∷◌, ◌<◌, arith, refl, true, get_or, min}
use Rattle.std.proofs.lemmas.List.{length-take, get_or-take}
use Rattle.card_writer.proofs.WriterWays.{Writes, put_written, writes_next}
use Rattle.decimal.specs.Decimal.{capped}
use Rattle.mkcard.specs.Scan.{most_words, numbers_from}
use Rattle.mkcard.proofs.WordWays.{numbers_kept, numbers_done, capped_long, card_room, words_done}
use Rattle.mkcard.proofs.make.write_words.Goals as goal

pub loop-value-preserved : goal.loop-value-preserved
loop-value-preserved c =
    let l = c.loop-value in
    let a = c.args in
    let s = a.s in
    let i = l.value-index in
    let n = c.min.result in
    let h : i < min s.count most_words = omega (arith, length-take n s.values, c.min.ensures) in
    let e = rw (get_or-take n s.values i 0 (omega (arith, c.min.ensures))) at c.write_word-at.ensures in
    let w : Writes true a.out.now 0 (numbers_from most_words 0 s) l.out l.at
    (capped (get_or s.values i 0) ∷ numbers_from (most_words - (i + 1)) (i + 1) s) =
    rw (numbers_kept s (most_words - i) i (omega arith) (omega arith) (omega arith)) at l.invariant.1 in
    let next = writes_next (card_room s a.out.now c.requires) w (put_written refl e) in
    (omega (arith, l.invariant.0, e.0, capped_long (get_or s.values i 0)), next)

pub returns : goal.returns
returns c =
    let l = c.loop-value in
    let s = c.args.s in
    let i = l.value-index in
    let long = length-take c.min.result s.values in
    let done = numbers_done s (most_words - i) i (omega (arith, long, c.min.ensures)) (omega (arith, long, c.min.ensures)) in
    words_done s (numbers_from (most_words - i) i s) done l.invariant.1
