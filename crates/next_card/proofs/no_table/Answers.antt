use Rattle.std.proofs.Common.{refl}
use Rattle.card.specs.Read.{blank_table}
use Rattle.next_card.proofs.no_table.Goals as goal

pub returns : goal.returns
unfolding blank_table
returns c = refl
