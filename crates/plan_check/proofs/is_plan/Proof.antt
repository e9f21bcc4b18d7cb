use Prim.Native.Nat.{ℕ}
use mathlib.Core.Path.{◌≡◌, ap, ◌∙◌}
use mathlib.Core.Bool.{Bool}
use mathlib.Core.List.{List}
use lib.ListN.{length}
use Rattle.numbers.specs.Limits.{max_zones, table_length}
use Rattle.card.specs.declared.Figures.{Figures}
use Rattle.plan.specs.declared.Plan.{Plan}
use Rattle.plan.specs.Plan.{plan_from}
use Rattle.plan.specs.Answer.{is_plan}
use Rattle.plan.specs.Scratch.{leads_by}
use borrow.Author.Rules.{rules}
use Rattle.plan_check.proofs.is_plan.Statement.{statement}
use Rattle.plan_check.proofs.is_plan.Tie as tie

wide : (c : tie.Start)
    → (let f = c.args.plan.figures in (length f.positions ≡ max_zones) × (length f.times ≡ max_zones) × (length f.table ≡ table_length))
wide c = (search rules, search rules, search rules)

-- the check, with what is lent
abbrev fits : Plan → List ℕ → List ℕ → Bool → Bool
fits p ps ls listed = is_plan p ps (leads_by listed p ls)

is-plan-of-requires : tie.Need-is_plan_of-requires
is-plan-of-requires c κs = let n = c in wide c.before.before.before.before.before.before.before

returns : tie.Need-returns
returns c =
    let n = c in
    let a = n.args in
    c.is_plan_of.ensures
    ∙ ap (λ (f : Figures). fits (plan_from f n.numbers_in-numbers.result) a.positions.now a.leads.now a.listed) n.scalars_in-figures.ensures
    ∙ ap (λ (p : Plan). fits p a.positions.now a.leads.now a.listed) n.numbers_in-numbers.ensures

pub is_plan_spec : {M : Type 1} → statement M
is_plan_spec = tie.close (tie.spec (λ c κs. search rules) (λ c κs. search rules) is-plan-of-requires returns)
