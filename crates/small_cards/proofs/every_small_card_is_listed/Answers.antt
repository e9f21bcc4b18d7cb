use Rattle.card.specs.Read.{blank_figures}
use Rattle.small_cards.specs.Cards.{small_cards}
use Rattle.small_cards.specs.Computed.{all_in_order}
use Rattle.small_cards.proofs.Form.{listed_small}
use Rattle.small_cards.proofs.Listed.{small_listed}
use Rattle.small_cards.specs.Order.{order_unique}
use Rattle.small_cards.proofs.every_small_card_is_listed.Goals as goal

pub returns : goal.returns
returns c = record { every = small_listed; only = listed_small; once = order_unique blank_figures small_cards all_in_order }
