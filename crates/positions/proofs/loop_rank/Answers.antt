use mathlib.Core.Path.{sym, ◌∙◌}
use native.Mathlib.Omega.{arith}
use Rattle.placement.specs.Circle.{rank}
use Rattle.positions.proofs.loop_rank.Goals as goal

pub returns-then-rank_falls : goal.returns-then-rank_falls
unfolding rank
returns-then-rank_falls c = rw (sym c.rank_falls.ensures ∙ c.if-rank_falls.true)

pub returns-then-b-eq0 : goal.returns-then-b-eq0
unfolding rank
returns-then-b-eq0 c = rw (sym c.rank_falls.ensures ∙ c.if-rank_falls.false) (omega arith)

pub returns : goal.returns
unfolding rank
returns c = rw (sym c.rank_falls.ensures ∙ c.if-rank_falls.false)
