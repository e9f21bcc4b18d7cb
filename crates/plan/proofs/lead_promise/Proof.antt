use Rattle.plan.proofs.Promise.{lead_laws, promise}
use Rattle.plan.proofs.lead_promise.Statement.{statement}
use Rattle.plan.proofs.lead_promise.Tie as tie

returns : tie.Need-returns
returns c = (lead_laws, promise)

pub lead_promise_spec : {M : Type 1} → statement M
lead_promise_spec = tie.close (tie.spec returns)
