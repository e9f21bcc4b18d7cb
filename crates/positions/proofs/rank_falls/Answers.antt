use borrow.Author.Tests.{le-leb, lt-leb}
use Rattle.placement.specs.Circle.{falls}
use Rattle.positions.proofs.rank_falls.Goals as goal

pub returns-then-b-blocks : goal.returns-then-b-blocks
unfolding falls
returns-then-b-blocks c = rw (le-leb _ _ c.if-b-blocks.true)

pub returns : goal.returns
unfolding falls
returns c = rw (lt-leb _ _ c.if-b-blocks.false)
