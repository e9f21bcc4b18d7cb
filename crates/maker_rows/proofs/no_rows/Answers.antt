use Rattle.std.proofs.Common.{refl}
use Rattle.card.specs.Read.{blank_zones}
use Rattle.maker_rows.specs.Kept.{no_rows}
use Rattle.maker_rows.proofs.no_rows.Goals as goal

pub returns : goal.returns
unfolding no_rows blank_zones
returns c = refl
