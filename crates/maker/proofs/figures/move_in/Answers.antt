use Rattle.std.proofs.Common.{sym}
use Rattle.maker.proofs.MoveWays.{move_kept, move_lost}
use Rattle.maker.proofs.figures.move_in.Goals as goal

pub returns-then-v-gt-MAX_MOVE : goal.returns-then-v-gt-MAX_MOVE
returns-then-v-gt-MAX_MOVE c = sym (move_lost c.args.v c.if-v-gt-MAX_MOVE.true)

pub returns : goal.returns
returns c = sym (move_kept c.args.v c.if-v-gt-MAX_MOVE.false)
