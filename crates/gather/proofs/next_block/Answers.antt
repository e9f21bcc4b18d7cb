use mathlib.Core.Path.{refl}
use native.Mathlib.Omega.{arith}
use Rattle.gather.proofs.next_block.Goals as goal

pub block_at-requires : goal.block_at-requires
block_at-requires c = (c.requires.0, c.requires.1 (omega arith) (omega arith))

pub block_at-requires-in-3 : goal.block_at-requires-in-3
block_at-requires-in-3 c = (c.requires.0, c.requires.1 (omega arith) (omega arith))

pub returns-in-2 : goal.returns-in-2
returns-in-2 c = record { here = λ a b. c.block_at.ensures; other = λ n. absurd (n (omega arith) (omega arith)) }

pub returns-in-3 : goal.returns-in-3
returns-in-3 c = record { here = λ a b. c.block_at-in-3.ensures; other = λ n. absurd (n (omega arith) (omega arith)) }

pub returns-in_default : goal.returns-in_default
returns-in_default c = record { here = λ a b. absurd (omega arith); other = λ n. record { time = refl; position = refl; other = refl } }
