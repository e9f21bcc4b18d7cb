use Rattle.layings.proofs.Arranged.{laying_listed, listed_laying, layings_once}
use Rattle.layings.proofs.every_laying_is_tried.Statement.{statement}
use Rattle.layings.proofs.every_laying_is_tried.Tie as tie

returns : tie.Need-returns
returns c = (laying_listed, (listed_laying, layings_once))

pub every_laying_is_tried_spec : {M : Type 1} → statement M
every_laying_is_tried_spec = tie.close (tie.spec returns)
