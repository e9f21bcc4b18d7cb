use Rattle.std.proofs.Common.{arith, sym}
use Rattle.placement.specs.CircleBest.{round_last, round_next}
use Rattle.try_layings.proofs.worst.next_block.Goals as goal

pub returns-then-b-blocks : goal.returns-then-b-blocks
returns-then-b-blocks c = sym (round_last c.args.blocks c.args.b (omega arith))

pub returns : goal.returns
returns c = omega (arith, round_next c.args.blocks c.args.b (omega arith))
