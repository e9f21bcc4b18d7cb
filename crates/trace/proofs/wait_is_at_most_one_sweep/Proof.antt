use Rattle.trace.proofs.WaitLaws.{planned_least, opened_least}
use Rattle.trace.proofs.wait_is_at_most_one_sweep.Statement.{statement}
use Rattle.trace.proofs.wait_is_at_most_one_sweep.Tie as tie

returns : tie.Need-returns
returns c = (planned_least, opened_least)

pub wait_is_at_most_one_sweep_spec : {M : Type 1} → statement M
wait_is_at_most_one_sweep_spec = tie.close (tie.spec returns)
