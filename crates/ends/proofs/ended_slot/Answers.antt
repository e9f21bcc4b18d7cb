use native.Mathlib.Omega.{arith}
use Rattle.ends.proofs.Ending.{still}
use Rattle.ends.proofs.ended_slot.Goals as goal

pub swept-requires : goal.swept-requires
swept-requires c = (c.requires.0, omega arith, omega arith, c.requires.1)

pub swept-requires-in-3 : goal.swept-requires-in-3
swept-requires-in-3 c = (c.requires.0, omega arith, omega arith, c.requires.1)

pub returns-in-4 : goal.returns-in-4
returns-in-4 c = λ p f. c.drained.ensures p f.start

pub returns-in_default : goal.returns-in_default
returns-in_default c = λ p f. still p c.args.slot c.args.draw (omega (arith, c.requires.0.kinds))
    (c.requires.0.none (omega (arith, c.requires.0.kinds)))
