-- The reader judges the card of the words, which lies at the front of the buffer.
use Rattle.std.proofs.Common.{◌∙◌, List, ℕ, sym, ap, arith, take, length-take-le}
use Rattle.card.specs.Read.{read_card}
use Rattle.mkcard.specs.Scan.{numbers_in, line_of}
use Rattle.mkcard.proofs.WordWays.{card_long, card_taken, card_fits, made_card, made_none}
use Rattle.mkcard.proofs.make.make_card.Goals as goal

pub slice_bounds-read_card-end : goal.slice_bounds-read_card-end
slice_bounds-read_card-end c =
    let e = c.write_words-length.ensures in
    card_fits c.args.out.now _ e.0 e.1 (omega (arith, card_long c.args.s, c.requires))

pub slice_bounds-read_card-end-2 : goal.slice_bounds-read_card-end-2
slice_bounds-read_card-end-2 c = sym (length-take-le _ _ (slice_bounds-read_card-end c))

pub returns-then-verdict-eq0 : goal.returns-then-verdict-eq0
returns-then-verdict-eq0 c =
    let e = c.write_words-length.ensures in
    let read = c.read_card-read.ensures ∙ ap (read_card 1) (card_taken c.args.out.now _ e.0 e.1) in
    (made_card _ _ read c.if-verdict-eq0.true _ e.0, e.1)

pub slice_bounds-numbers_before-end : goal.slice_bounds-numbers_before-end
slice_bounds-numbers_before-end c =
    let e = c.write_words-length.ensures in
    card_fits c.args.out.now _ e.0 e.1 (omega (arith, card_long c.args.s, c.requires))

pub slice_bounds-numbers_before-end-2 : goal.slice_bounds-numbers_before-end-2
slice_bounds-numbers_before-end-2 c = sym (length-take-le _ _ (slice_bounds-numbers_before-end c))

pub returns : goal.returns
returns c =
    let e = c.write_words-length.ensures in
    let s = c.args.s in
    let r = c.read_card-read in
    let taken = card_taken c.args.out.now _ e.0 e.1 in
    let read = r.ensures ∙ ap (read_card 1) taken in
    let front = ap (λ (x : List ℕ). numbers_in (take r.result.verdict.place x)) taken in
    let line = c.line_of.ensures ∙ ap (line_of s) (c.numbers_before-word.ensures ∙ front) in
    (made_none _ _ read c.if-verdict-eq0.false _ line, e.1)
