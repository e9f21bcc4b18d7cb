use mathlib.Core.Bool.{true}
use Rattle.placement.specs.Showing.{pairs}
use Rattle.legality.specs.Legality.{Wide}
use Rattle.plan.specs.Plan.{showing_of}
use Rattle.plan.specs.Check.{showing_back}
use Rattle.plan.specs.Ways.{outcome_same, judged_legal}
use borrow.Author.Rules.{rules}
use Rattle.planner.proofs.plan_pairs_record.Statement.{statement}
use Rattle.planner.proofs.plan_pairs_record.Tie as tie

wide : (c : tie.Start) → Wide c.args.figures
wide c = (search rules, search rules, search rules, search rules)

plan-figures-requires : tie.Need-plan_figures-requires
unfolding showing_of
plan-figures-requires c κs = let j = c.judged_figures_of in
    let s = c in
    judged_legal 2 s.args.figures (wide c.before.before.before.before.before) j.result j.ensures

returns : tie.Need-returns
returns c = let p = c in
    let r = c in
    let a = r.args in
    outcome_same true a.positions.now a.leads.now _ _ _ (showing_back pairs) r.judged_figures_of.ensures p.plan_figures.ensures

pub plan_pairs_record_spec : {M : Type 1} → statement M
plan_pairs_record_spec =
    tie.close
    (tie.spec (λ c κs. search rules) plan-figures-requires (λ c. search rules) (λ c. search rules) returns)
