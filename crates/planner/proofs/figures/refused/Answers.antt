use Rattle.plan.specs.Answer.{refusal}
use Rattle.planner.proofs.figures.refused.Goals as goal

pub returns : goal.returns
unfolding refusal
returns c = let a = c.args in
    λ i. record { verdict = record { number = a.number; place = a.place }; plan = c.blank_plan.ensures i }
