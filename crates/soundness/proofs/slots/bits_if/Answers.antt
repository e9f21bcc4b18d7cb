use mathlib.Core.Path.{refl}
use Rattle.laws.specs.Bools.{clash}
use Rattle.soundness.proofs.slots.bits_if.Goals as goal

pub returns-then-so : goal.returns-then-so
returns-then-so c = (λ _. refl, λ e. clash c.if-so.true e)

pub returns : goal.returns
returns c = (λ e. clash e c.if-so.false, λ _. refl)
