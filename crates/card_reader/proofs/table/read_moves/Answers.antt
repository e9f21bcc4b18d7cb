use Rattle.std.proofs.Common.{ℕ, List, refl, sym, ap, ◌∙◌}
use Rattle.card_field.specs.Figure.{field_in}
use Rattle.card.specs.Read.{then_field, moves_from}
use Rattle.card_reader.proofs.ReaderWays.{card_stops, card_goes, move_bound}
use Rattle.card_reader.proofs.table.read_moves.Goals as goal

pub returns-in_default : goal.returns-in_default
unfolding moves_from
returns-in_default c = λ go. card_stops c.read_field-first.ensures _ _ (ap field_in c.in_default.is)

pub returns-in_default-second : goal.returns-in_default-second
unfolding moves_from
returns-in_default-second c =
    λ go. card_stops c.read_field-second.ensures _ _ (ap field_in c.in_default-second.is)
    ∙ card_goes c.read_field-first.ensures _ (ap field_in c.in-Ok.is)

pub fill_straight-requires : goal.fill_straight-requires
fill_straight-requires c =
    let hop = move_bound _ _ c.read_field-first.ensures (ap field_in c.in-Ok.is) in
    let back = move_bound _ _ c.read_field-second.ensures (ap field_in c.in-Ok-second.is) in
    (hop, back, c.requires)

pub returns : goal.returns
unfolding moves_from
returns c =
    λ go. sym (card_goes refl (λ v next. go c.fill_straight.new.table next) (ap field_in c.in-Ok-second.is))
    ∙ ap (λ (t : List ℕ). go t c.in-Ok-second.field-0-1) c.fill_straight.ensures
    ∙ card_goes c.read_field-second.ensures _ (ap field_in c.in-Ok-second.is)
    ∙ card_goes c.read_field-first.ensures _ (ap field_in c.in-Ok.is)
