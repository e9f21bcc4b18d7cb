use Rattle.std.proofs.Common.{arith, ◌≡◌, refl, ap, ◌∙◌, length}
use Rattle.numbers.specs.Limits.{table_length}
use Rattle.card.specs.Read.{blank_table}
use Rattle.next_card.proofs.overheads.Goals as goal

blank-long : length blank_table ≡ table_length
unfolding blank_table
blank-long = refl

pub fill_straight-requires : goal.fill_straight-requires
fill_straight-requires c = (omega arith, omega arith, ap length c.no_table-table.ensures ∙ blank-long)
