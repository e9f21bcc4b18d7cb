use Rattle.std.proofs.Common.{arith, ◌∙◌}
use Rattle.next_card.proofs.Ways.{block_more, block_none}
use Rattle.next_card.proofs.next_card.Goals as goal

pub returns-then-card-most_blocks : goal.returns-then-card-most_blocks
returns-then-card-most_blocks c = block_more c.args.card (omega arith)

pub returns : goal.returns
returns c = c.next_times.ensures ∙ block_none c.args.card (omega arith)
