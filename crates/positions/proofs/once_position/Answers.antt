use native.Mathlib.Omega.{arith}
use borrow.Author.Tests.{eq-eqb, ne_eqb}
use Rattle.placement.specs.Placement.{zigzag}
use Rattle.positions.proofs.once_position.Goals as goal

pub returns-then-b-eq0 : goal.returns-then-b-eq0
unfolding zigzag
returns-then-b-eq0 c = record { is = simp (eq-eqb _ _ c.if-b-eq0.true); from = omega arith; to = omega arith }

pub returns : goal.returns
unfolding zigzag
returns c = record { is = simp (ne_eqb _ _ c.if-b-eq0.false); from = omega arith; to = omega arith }
