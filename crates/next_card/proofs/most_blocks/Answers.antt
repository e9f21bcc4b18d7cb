use Rattle.std.proofs.Common.{arith}
use Rattle.small_cards.specs.Next.{most_blocks}
use Rattle.next_card.proofs.most_blocks.Goals as goal

pub returns : goal.returns
unfolding most_blocks
returns c = omega (arith, c.min.ensures)
