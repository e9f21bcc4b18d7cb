use mathlib.Core.Path.{ap, ◌∙◌}
use mathlib.Core.Bool.{Bool, ◌&&◌, and-true}
use Rattle.plan.specs.Plan.{lent_plan}
use Rattle.plan.specs.Answer.{has_numbers, has_positions}
use Rattle.plan_check.proofs.is_laid_of.Goals as goal

pub is_plan_with-requires : goal.is_plan_with-requires
is_plan_with-requires c = c.requires

pub returns : goal.returns
returns c = let a = c.args in
    let p = lent_plan a.figures a.sizes.now a.times.now a.table.now a.plan in
    c.is_plan_with.ensures ∙ ap (λ (t : Bool). has_numbers p && t) (and-true (has_positions p a.positions.now))
