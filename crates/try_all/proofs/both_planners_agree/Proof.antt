use mathlib.Core.Path.{refl}
use Rattle.card.specs.Read.{read_card}
use Rattle.plan.specs.Answer.{judged}
use Rattle.round_trip.specs.RoundTrip.{card_legal}
use Rattle.plan.specs.Ways.{judged_legal}
use Rattle.try_all.proofs.Ways.{same_answer}
use Rattle.try_all.proofs.both_planners_agree.Statement.{statement}
use Rattle.try_all.proofs.both_planners_agree.Tie as tie

returns : tie.Need-returns
returns c = (
  λ x v s y. same_answer x v (read_card 1 s) (card_legal 1 s y (read_card 1 s) refl),
  λ x v f w. same_answer x v (judged 1 f) (judged_legal 1 f w (judged 1 f) refl),
)

pub both_planners_agree_spec : {M : Type 1} → statement M
both_planners_agree_spec = tie.close (tie.spec returns)
