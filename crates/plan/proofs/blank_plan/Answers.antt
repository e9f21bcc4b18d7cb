use mathlib.Core.Path.{refl}
use Rattle.card.specs.Read.{blank_zones, blank_films, blank_table, blank_figures}
use Rattle.plan.specs.Plan.{blank_plan}
use Rattle.plan.proofs.blank_plan.Goals as goal

pub returns : goal.returns
unfolding blank_zones blank_films blank_table blank_figures blank_plan
returns c = refl
