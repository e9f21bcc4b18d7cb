use Rattle.card.specs.Read.{blank_figures}
use Rattle.small_cards.specs.Cards.{small_cards}
use Rattle.small_cards.specs.Computed.{all_in_order}
use Rattle.small_cards.specs.Order.{order_at}
use Rattle.small_cards.proofs.small_cards_are_in_order.Goals as goal

pub returns : goal.returns
returns c = order_at blank_figures blank_figures small_cards all_in_order
