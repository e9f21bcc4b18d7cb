use Rattle.std.proofs.Common.{ap, ◌∙◌}
use Rattle.card_field.specs.Figure.{field_in}
use Rattle.card.specs.Read.{refused_card, after_zones, read_card}
use Rattle.card_reader.proofs.ReaderWays.{handed_card, zones_go, card_stops, card_goes, zones_bound, zones_blank}
use Rattle.card_reader.proofs.read_parts.Goals as goal

pub returns-in_default : goal.returns-in_default
unfolding read_card
returns-in_default c =
    handed_card c.in_default.is (λ v next. refused_card 0 0) _ _ _ _ _ c.refused.ensures
    ∙ card_stops c.read_field-first.ensures _ _ (ap field_in c.in_default.is)

pub returns-in_default-second : goal.returns-in_default-second
unfolding read_card
returns-in_default-second c =
    handed_card c.in_default-second.is (λ v next. refused_card 0 0) _ _ _ _ _ c.refused-in_default-second.ensures
    ∙ card_stops c.read_field-second.ensures _ _ (ap field_in c.in_default-second.is)
    ∙ card_goes c.read_field-first.ensures _ (ap field_in c.in-Ok.is)

pub read_zones-third-requires : goal.read_zones-third-requires
read_zones-third-requires c = zones_bound _ _ _ c.read_field-second.ensures (ap field_in c.in-Ok-second.is)

pub returns-in_default-third : goal.returns-in_default-third
unfolding read_card
returns-in_default-third c =
    handed_card c.in_default-third.is _ _ _ _ _ _ c.refused-in_default-third.ensures
    ∙ c.read_zones-third.ensures (after_zones c.args.visits c.args.card.now c.in-Ok.kind c.in-Ok-second.zones)
    ∙ zones_blank _ _ _ _ c.requires.0 c.requires.1
    ∙ card_goes c.read_field-second.ensures _ (ap field_in c.in-Ok-second.is)
    ∙ card_goes c.read_field-first.ensures _ (ap field_in c.in-Ok.is)

pub returns : goal.returns
unfolding read_card
returns c =
    c.read_film.ensures _ _
    ∙ zones_go c.in-Ok-third.is _ _ (after_zones c.args.visits c.args.card.now c.in-Ok.kind c.in-Ok-second.zones)
    ∙ c.read_zones-third.ensures _
    ∙ zones_blank _ _ _ _ c.requires.0 c.requires.1
    ∙ card_goes c.read_field-second.ensures _ (ap field_in c.in-Ok-second.is)
    ∙ card_goes c.read_field-first.ensures _ (ap field_in c.in-Ok.is)
