use Rattle.std.proofs.Common.{ℕ, length, ap, ◌∙◌, arith}
use Rattle.std.proofs.lemmas.List.{length-replicate}
use Rattle.numbers.specs.Limits.{table_length}
use Rattle.maker.proofs.MoveWays.{move_small}
use Rattle.maker.proofs.figures.table_of.Goals as goal

pub fill_straight-requires : goal.fill_straight-requires
fill_straight-requires c = (
  omega (arith, c.move_in.ensures, move_small c.args.hop),
  omega (arith, c.move_in-2.ensures, move_small c.args.back),
  ap length c.zeros-table.ensures ∙ length-replicate {A = ℕ} table_length 0,
)
