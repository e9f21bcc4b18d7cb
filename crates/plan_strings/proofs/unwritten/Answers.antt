use Rattle.plan_strings.proofs.Ways.{card_refused, card_accepted}
use Rattle.plan_strings.proofs.unwritten.Goals as goal

pub returns-then-verdict-ne-ACCEPTED : goal.returns-then-verdict-ne-ACCEPTED
returns-then-verdict-ne-ACCEPTED c = λ x. let r = c.read_card_of-read in
    card_refused _ x r.result _ r.ensures _ c.if-verdict-ne-ACCEPTED.true c.verdict_answer.ensures

pub returns : goal.returns
returns c = λ x. let r = c.read_card_of-read in
    card_accepted _ x r.result _ r.ensures _ c.if-verdict-ne-ACCEPTED.false c.verdict_answer-2.ensures
