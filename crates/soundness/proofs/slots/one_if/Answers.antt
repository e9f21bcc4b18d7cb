use mathlib.Core.Path.{refl}
use native.Mathlib.Omega.{arith}
use Rattle.laws.specs.Bools.{clash}
use Rattle.soundness.proofs.slots.one_if.Goals as goal

pub returns-then-so : goal.returns-then-so
returns-then-so c = (λ e. absurd (omega arith), λ e. clash c.if-so.true e)

pub returns : goal.returns
returns c = (λ _. c.if-so.false, λ _. refl)
