use native.Mathlib.Omega.{arith}
use borrow.Author.Tests.{eq-eqb, ne_eqb}
use Rattle.compare_planners.specs.Compare.{unequal_of}
use Rattle.compare_planners.proofs.compare.unequal.Goals as goal

pub returns-then-first-second : goal.returns-then-first-second
unfolding unequal_of
returns-then-first-second c = let a = c.args in (rw (eq-eqb a.first a.second c.if-first-second.true), omega arith)

pub returns : goal.returns
unfolding unequal_of
returns c = let a = c.args in (rw (ne_eqb a.first a.second c.if-first-second.false), omega arith)
