use mathlib.Core.Path.{refl}
use Rattle.plan.specs.Legal.{worst2_above}
use Rattle.plan.proofs.Legal.{legal_laying}
use Rattle.plan.specs.Promise.{worst2_reached}
use Rattle.plan.proofs.Promise.{best_time, best_streams, free_is, before_above}
use Rattle.plan.proofs.placement_best.Statement.{statement}
use Rattle.plan.proofs.placement_best.Tie as tie

returns : tie.Need-returns
returns c = (
  λ x f ok i u l lay. (best_time x f ok i u l lay, best_streams x f ok i u l lay),
  (
    λ x f ok i u. (legal_laying x f ok i u, refl),
    (λ x f ok i u. (free_is x f ok i u, before_above x f ok i u), λ x f ok. (worst2_above x f ok, worst2_reached x f ok)),
  ),
)

pub placement_best_spec : {M : Type 1} → statement M
placement_best_spec = tie.close (tie.spec returns)
