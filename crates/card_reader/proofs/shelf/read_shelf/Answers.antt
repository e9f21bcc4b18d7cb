use Rattle.std.proofs.Common.{ℕ, ◌+◌, List, refl, ap, ◌∙◌}
use Rattle.card_field.specs.Ranges.{blocks_fault}
use Rattle.card_field.specs.Figure.{field_in}
use Rattle.card.specs.Read.{then_field, row_from, shelf_from}
use Rattle.card_reader.proofs.ReaderWays.{row_goes, card_stops, card_goes, films_bound}
use Rattle.card_reader.proofs.shelf.read_shelf.Goals as goal

pub returns-in_default : goal.returns-in_default
unfolding shelf_from
returns-in_default c = λ go. card_stops c.read_field-first.ensures _ _ (ap field_in c.in_default.is)

pub read_lengths-last-requires : goal.read_lengths-last-requires
read_lengths-last-requires c = films_bound _ _ c.read_field-first.ensures (ap field_in c.in-Ok.is)

pub returns-in_default-last : goal.returns-in_default-last
unfolding shelf_from
returns-in_default-last c =
    let a = c.args in
    let films = c.in-Ok.films in
    λ go. card_stops refl _ _ (ap field_in c.in_default-last.is)
    ∙ c.read_lengths-last.ensures (go films)
    ∙ ap (λ (vs : List ℕ). row_from (blocks_fault a.visits a.total) ◌+◌ films a.card.now c.in-Ok.next 0 0 vs (go films)) c.requires
    ∙ card_goes c.read_field-first.ensures _ (ap field_in c.in-Ok.is)

pub returns : goal.returns
unfolding then_field shelf_from
returns c =
    let a = c.args in
    let films = c.in-Ok.films in
    λ go. row_goes c.in-Ok-last.is c.read_lengths-last.new.blocks (go films)
    ∙ c.read_lengths-last.ensures (go films)
    ∙ ap (λ (vs : List ℕ). row_from (blocks_fault a.visits a.total) ◌+◌ films a.card.now c.in-Ok.next 0 0 vs (go films)) c.requires
    ∙ card_goes c.read_field-first.ensures _ (ap field_in c.in-Ok.is)
