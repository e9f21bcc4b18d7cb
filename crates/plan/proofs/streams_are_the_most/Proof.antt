use Rattle.plan.proofs.GreatestLaws.{streams_most, most_streams, none_fits, one_fails}
use Rattle.plan.proofs.streams_are_the_most.Statement.{statement}
use Rattle.plan.proofs.streams_are_the_most.Tie as tie

returns : tie.Need-returns
returns c = (streams_most, (most_streams, (none_fits, one_fails)))

pub streams_are_the_most_spec : {M : Type 1} → statement M
streams_are_the_most_spec = tie.close (tie.spec returns)
