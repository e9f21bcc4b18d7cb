use native.Mathlib.Omega.{arith}
use Rattle.placement.specs.Circle.{ring}
use Rattle.placement.specs.CircleBest.{rank_within}
use Rattle.positions.proofs.loop_position.Goals as goal

pub overflow_add-result : goal.overflow_add-result
overflow_add-result c = omega (arith, rank_within c.args.blocks c.args.b c.requires.0 c.requires.2, c.loop_rank.ensures)

pub returns : goal.returns
unfolding ring
returns c =
    let r = rank_within c.args.blocks c.args.b c.requires.0 c.requires.2 in
    record { is = omega (arith, c.loop_rank.ensures); from = omega arith; to = omega (arith, c.loop_rank.ensures) }
