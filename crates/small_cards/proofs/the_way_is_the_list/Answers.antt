use Rattle.small_cards.proofs.Steps.{step_listed, step_last}
use Rattle.small_cards.proofs.the_way_is_the_list.Goals as goal

pub returns : goal.returns
returns c = record { cards = step_listed; last = step_last }
