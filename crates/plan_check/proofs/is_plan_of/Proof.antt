use mathlib.Core.Path.{◌∙◌}
use borrow.Author.Rules.{rules}
use Rattle.card.specs.Read.{figures_from}
use Rattle.legality.specs.Legality.{Wide}
use Rattle.plan.specs.Plan.{lent_plan}
use Rattle.plan.proofs.ScratchLaws.{checked_by}
use Rattle.plan_check.proofs.is_plan_of.Statement.{statement}
use Rattle.plan_check.proofs.is_plan_of.Tie as tie

-- the arrays of the plan that is lent have their entries
wide : (c : tie.Start) → (let a = c.args in Wide (figures_from a.figures a.sizes.now a.times.now a.table.now))
wide c = (c.requires.0, c.requires.1, search rules, c.requires.2)

is-plan-with-requires : tie.Need-is_plan_with-requires
is-plan-with-requires c κs = c.requires

returns : tie.Need-returns
returns c = let s = c in
    let a = s.args in
    c.is_plan_with.ensures
    ∙ checked_by (lent_plan a.figures a.sizes.now a.times.now a.table.now a.plan) (wide c.before.before.before) a.listed a.positions.now a.leads.now

pub is_plan_of_spec : {M : Type 1} → statement M
is_plan_of_spec = tie.close (tie.spec is-plan-with-requires returns)
