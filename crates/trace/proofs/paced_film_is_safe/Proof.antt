use Rattle.safety.specs.Claim.{every_list_safe}
use Rattle.desk.specs.Supply.{supplied, paced_lawful}
use Rattle.trace.proofs.paced_film_is_safe.Statement.{statement}
use Rattle.trace.proofs.paced_film_is_safe.Tie as tie

returns : tie.Need-returns
returns c = (
  λ film w m r ok rated. paced_lawful film w r m ok rated,
  λ film w m r ok rated names gs. every_list_safe (supplied film w r) (paced_lawful film w r m ok rated) names gs,
)

pub paced_film_is_safe_spec : {M : Type 1} → statement M
paced_film_is_safe_spec = tie.close (tie.spec returns)
