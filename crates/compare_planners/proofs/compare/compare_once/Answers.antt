-- What both planners answered is what the specification compares.
use Rattle.std.proofs.Common.{ap, ◌∙◌}
use mathlib.Core.Path.{ap₂}
use Rattle.plan.specs.declared.Planned.{Planned}
use Rattle.try_all.specs.declared.Tried.{Tried}
use Rattle.compare_planners.specs.Compare.{unequal_of, eight, unequal_on}
use Rattle.compare_planners.proofs.compare.compare_once.Goals as goal

pub returns : goal.returns
unfolding eight unequal_on
returns c =
    let t = c.try_card-tried in
    let p = c.plan_card-planned in (
      c.unequal.ensures.0 ∙ ap₂ unequal_of (ap (λ (a : Planned). a.plan.worst2) p.ensures.0) (ap (λ (b : Tried). b.worst2) t.ensures),
      c.unequal.ensures.1,
    )
