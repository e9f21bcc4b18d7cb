use Rattle.trace.specs.PlannedLaws.{card_opens, record_opens}
use Rattle.trace.specs.ScratchLaws.{scratch_opens}
use Rattle.trace.proofs.planned_film_opens.Statement.{statement}
use Rattle.trace.proofs.planned_film_opens.Tie as tie

returns : tie.Need-returns
returns c = (card_opens, (record_opens, scratch_opens))

pub planned_film_opens_spec : {M : Type 1} → statement M
planned_film_opens_spec = tie.close (tie.spec returns)
