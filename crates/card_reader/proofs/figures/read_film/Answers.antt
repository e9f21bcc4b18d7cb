use Rattle.std.proofs.Common.{ap, ◌∙◌}
use Rattle.card_field.specs.Figure.{field_in}
use Rattle.card.specs.Read.{refused_card, card_end, film_from}
use Rattle.card_reader.specs.Told.{told_figures, told_card}
use Rattle.card_reader.proofs.ReaderWays.{handed_card, row_goes, bytes_left, overheads_left, card_stops, card_goes, end_left, end_none}
use Rattle.card_reader.proofs.figures.read_film.Goals as goal

pub returns-in_default : goal.returns-in_default
unfolding film_from
returns-in_default c = λ ps ts. handed_card c.in_default.is _ _ _ _ _ _ c.refused.ensures ∙ c.read_shelf-first.ensures _

pub returns-in_default-second : goal.returns-in_default-second
unfolding film_from
returns-in_default-second c =
    λ ps ts. handed_card c.in_default-second.is (λ v next. refused_card 0 0) _ _ _ _ _ c.refused-in_default-second.ensures
    ∙ card_stops c.read_field-second.ensures _ _ (ap field_in c.in_default-second.is)
    ∙ bytes_left _ _ _ _ c.in-Ok.is c.read_shelf-first.new.blocks (λ go. c.read_shelf-first.ensures go) _

pub returns-in_default-third : goal.returns-in_default-third
unfolding film_from
returns-in_default-third c =
    λ ps ts. handed_card c.in_default-third.is (λ v next. refused_card 0 0) _ _ _ _ _ c.refused-in_default-third.ensures
    ∙ card_stops c.read_field-third.ensures _ _ (ap field_in c.in_default-third.is)
    ∙ card_goes c.read_field-second.ensures _ (ap field_in c.in-Ok-second.is)
    ∙ bytes_left _ _ _ _ c.in-Ok.is c.read_shelf-first.new.blocks (λ go. c.read_shelf-first.ensures go) _

pub returns-in_default-last : goal.returns-in_default-last
returns-in_default-last c =
    λ ps ts. handed_card c.in_default-last.is _ _ _ _ _ _ c.refused-in_default-last.ensures
    ∙ c.read_table-last.ensures _
    ∙ overheads_left _ _ _ _ c.in-Ok.is c.read_shelf-first.new.blocks (λ go. c.read_shelf-first.ensures go)
    c.in-Ok-second.is c.read_field-second.ensures c.in-Ok-third.is c.read_field-third.ensures _

pub returns-then-end-card : goal.returns-then-end-card
unfolding told_card
returns-then-end-card c =
    λ ps ts. end_left _ _ (told_figures ps ts c.read_shelf-first.new.blocks c.read_table-last.new.table c.args.kind c.args.zones c.in-Ok.films c.in-Ok-second.bytes c.in-Ok-third.rate)
    c.if-end-card.true
    ∙ row_goes c.in-Ok-last.is c.read_table-last.new.table (λ os end. card_end c.args.card.now end (told_figures ps ts c.read_shelf-first.new.blocks os c.args.kind c.args.zones c.in-Ok.films
    c.in-Ok-second.bytes c.in-Ok-third.rate))
    ∙ c.read_table-last.ensures _
    ∙ overheads_left _ _ _ _ c.in-Ok.is c.read_shelf-first.new.blocks (λ go. c.read_shelf-first.ensures go)
    c.in-Ok-second.is c.read_field-second.ensures c.in-Ok-third.is c.read_field-third.ensures _

pub returns : goal.returns
unfolding told_card
returns c =
    λ ps ts. end_none _ _ (told_figures ps ts c.read_shelf-first.new.blocks c.read_table-last.new.table c.args.kind c.args.zones c.in-Ok.films c.in-Ok-second.bytes c.in-Ok-third.rate)
    c.if-end-card.false
    ∙ row_goes c.in-Ok-last.is c.read_table-last.new.table (λ os end. card_end c.args.card.now end (told_figures ps ts c.read_shelf-first.new.blocks os c.args.kind c.args.zones c.in-Ok.films
    c.in-Ok-second.bytes c.in-Ok-third.rate))
    ∙ c.read_table-last.ensures _
    ∙ overheads_left _ _ _ _ c.in-Ok.is c.read_shelf-first.new.blocks (λ go. c.read_shelf-first.ensures go)
    c.in-Ok-second.is c.read_field-second.ensures c.in-Ok-third.is c.read_field-third.ensures _
