use Rattle.plan.proofs.GreatestLaws.{lead_greatest, greatest_lead}
use Rattle.plan.proofs.lead_is_the_greatest.Statement.{statement}
use Rattle.plan.proofs.lead_is_the_greatest.Tie as tie

returns : tie.Need-returns
returns c = (lead_greatest, greatest_lead)

pub lead_is_the_greatest_spec : {M : Type 1} → statement M
lead_is_the_greatest_spec = tie.close (tie.spec returns)
