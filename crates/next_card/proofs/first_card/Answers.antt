use Rattle.std.proofs.Common.{refl}
use Rattle.small_cards.specs.Next.{first_card}
use Rattle.next_card.proofs.first_card.Goals as goal

pub returns : goal.returns
unfolding first_card
returns c = refl
