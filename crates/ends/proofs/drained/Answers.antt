use native.Mathlib.Omega.{arith}
use Rattle.ends.proofs.Ending.{drained_empty, drained_on}
use Rattle.ends.proofs.drained.Goals as goal

pub returns-then-slot-draw : goal.returns-then-slot-draw
returns-then-slot-draw c = λ p z. drained_empty p c.args.slot c.args.draw z c.requires.0 (omega arith)

pub returns : goal.returns
returns c = λ p z. drained_on p c.args.slot c.args.draw c.requires.0 (omega arith)
