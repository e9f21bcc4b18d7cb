use mathlib.Core.Bool.{true≢false}
use Rattle.std.specs.Prelude.{ℕ, ◌≡◌, List, false, length}
use Rattle.std.proofs.Common.{sym, ap, ◌∙◌, arith, rules}
use Rattle.laws.specs.Overwrite.{overwrite}
use Rattle.card.specs.CardLaws.{fault_zones, fault_films}
use Rattle.card.specs.Card.{card_of, record_fault}
use Rattle.card_writer.specs.Put.{Puts}
use Rattle.card_writer.proofs.WriterWays.{card_counted, write_faulty, write_short, write_fits}
use Rattle.card_writer.proofs.write_card.Goals as goal

pub returns-then-number-ne0 : goal.returns-then-number-ne0
returns-then-number-ne0 c =
    let w = write_faulty _ _ c.fault_of_record-number.ensures c.if-number-ne0.true in
    (c.not_written.ensures ∙ w.0, w.1)

-- past the first test the figures are legal, and their card is counted
pub put_card-length-requires : goal.put_card-length-requires
put_card-length-requires c =
    let legal : record_fault 1 c.args.figures ≡ 0 = sym c.fault_of_record-number.ensures ∙ c.if-number-ne0.false in
    let zones = fault_zones 1 _ legal in
    let films = fault_films 1 _ legal in
    (zones, films, record { counted = card_counted _ (search rules) zones films; written = λ t. absurd (true≢false (sym t)) })

-- the length is the card's, and the buffer is as it was
pub returns-then-out-length : goal.returns-then-out-length
returns-then-out-length c =
    let a = c.args in
    let legal : record_fault 1 a.figures ≡ 0 = sym c.fault_of_record-number.ensures ∙ c.if-number-ne0.false in
    let counted : Puts false a.out.now 0 (card_of a.figures) c.put_card-length.result c.put_card-length.new.out = c.put_card-length.ensures in
    let w = write_short a.figures a.out.now legal (omega (arith, counted.end, c.if-out-length.true)) in
    (c.not_written-then-out-length.ensures ∙ w.0, counted.string ∙ w.1)

pub put_card-requires : goal.put_card-requires
put_card-requires c =
    let a = c.args in
    let legal : record_fault 1 a.figures ≡ 0 = sym c.fault_of_record-number.ensures ∙ c.if-number-ne0.false in
    let zones = fault_zones 1 _ legal in
    let films = fault_films 1 _ legal in
    let counted : Puts false a.out.now 0 (card_of a.figures) c.put_card-length.result c.put_card-length.new.out = c.put_card-length.ensures in (
      zones,
      films,
      record {
        counted = card_counted _ (search rules) zones films;
        written = λ t. omega (arith, counted.end, ap length counted.string, c.if-out-length.false);
      },
    )

pub returns : goal.returns
returns c =
    let a = c.args in
    let legal : record_fault 1 a.figures ≡ 0 = sym c.fault_of_record-number.ensures ∙ c.if-number-ne0.false in
    let counted : Puts false a.out.now 0 (card_of a.figures) c.put_card-length.result c.put_card-length.new.out = c.put_card-length.ensures in
    let n : c.put_card-length.result ≡ length (card_of a.figures) = omega (arith, counted.end) in
    let w = write_fits a.figures a.out.now legal (omega (arith, n, c.if-out-length.false)) in (
      (λ t. record { verdict = record { number = 0; place = 0 }; length = n t }) ∙ w.0,
      c.put_card.ensures.string ∙ ap (λ (x : List ℕ). overwrite x 0 (card_of a.figures)) counted.string ∙ w.1,
    )
