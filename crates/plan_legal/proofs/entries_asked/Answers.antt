use mathlib.Core.Path.{refl}
use Rattle.plan_legal.proofs.entries_asked.Goals as goal

pub returns-then-listed : goal.returns-then-listed
returns-then-listed c = rw c.if-listed.true refl

pub returns : goal.returns
returns c = rw c.if-listed.false refl
