use mathlib.Core.Path.{sym}
use native.Mathlib.Omega.{arith}
use Rattle.placement.specs.CircleBest.{round_last, round_next}
use Rattle.worst_row.proofs.following.Goals as goal

pub returns-then-next-blocks : goal.returns-then-next-blocks
returns-then-next-blocks c = let a = c.args in omega (arith, round_next a.blocks a.b (omega arith))

pub returns : goal.returns
returns c = let a = c.args in sym (round_last a.blocks a.b (omega arith))
