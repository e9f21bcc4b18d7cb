use Rattle.card.specs.CardLaws.{halves_legal, legal_halves}
use Rattle.legality.specs.Legality.{judge_legal}
use Rattle.round_trip.proofs.halved_record_is_a_record.Goals as goal

pub returns : goal.returns
returns c = λ f w. let j = judge_legal 2 f w in
    (j.0, j.1, λ e. (judge_legal 1 f w).0.1 (halves_legal f (j.0.0 e)), (λ l. (halves_legal f l, l.room), λ l. legal_halves f l.0 l.1))
