use Rattle.plan.proofs.GreatestLaws.{pair_earliest, earliest_pair}
use Rattle.plan.proofs.worst_pair_is_the_earliest.Statement.{statement}
use Rattle.plan.proofs.worst_pair_is_the_earliest.Tie as tie

returns : tie.Need-returns
returns c = (pair_earliest, earliest_pair)

pub worst_pair_is_the_earliest_spec : {M : Type 1} → statement M
worst_pair_is_the_earliest_spec = tie.close (tie.spec returns)
