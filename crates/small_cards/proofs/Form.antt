-- Laws of what specs/Form defines.
use Rattle.laws.specs.Members.{In, in_all}
use Rattle.card.specs.declared.Figures.{Figures}
use Rattle.small_cards.specs.Cards.{Small, small_cards}
use Rattle.small_cards.specs.Computed.{has_form, all_have_form}
use Rattle.small_cards.specs.Form.{listed_moves, form_small}

-- EACH IS SMALL
pub listed_small : (f : Figures) → In f small_cards → Small f
listed_small f h = let m = listed_moves f h in form_small f m.0 m.1 (in_all has_form small_cards all_have_form f h)
