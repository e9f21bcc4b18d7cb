use Prim.Native.Nat.{ℕ}
use mathlib.Core.Path.{◌≡◌, sym, ap, ap₂, ◌∙◌}
use mathlib.Core.Bool.{Bool, ◌&&◌}
use lib.Dec.{ltb}
use Rattle.card.specs.Card.{record_fault}
use Rattle.placement.specs.Showing.{visits_of}
use Rattle.legality.specs.Legality.{Wide, fault_legal}
use Rattle.plan.specs.declared.Plan.{Plan}
use Rattle.plan.specs.Plan.{showing_in, lent_plan}
use Rattle.plan.specs.Answer.{same_numbers}
use Rattle.plan.specs.Ways.{plan_streams, not_legal, numbers_decide}
use borrow.Author.Rules.{rules}
use Rattle.plan_check.proofs.has_numbers.Statement.{statement}
use Rattle.plan_check.proofs.has_numbers.Tie as tie

-- the plan that is lent
abbrev given : tie.Start → Plan
given c = let a = c.args in lent_plan a.figures a.sizes.now a.times.now a.table.now a.plan

-- its arrays have their entries
wide : (c : tie.Start) → Wide (given c).figures
wide c = (c.requires.0, c.requires.1, search rules, c.requires.2)

-- the judge's number, for blocks of as many positions as the plan's showing has
judged : (c : tie.After-fault_of_figures)
    → (let p = given c.before.before in c.fault_of_figures.result ≡ record_fault (visits_of (showing_in p)) p.figures)
judged c = let p = given c.before.before in
    c.fault_of_figures.ensures ∙ ap (λ (k : ℕ). record_fault k p.figures) c.visits_of-visits.ensures

-- past the judge
clear : (c : tie.Else-fault_of_figures-ne-ACCEPTED) → (let p = given c.before.before.before in record_fault (visits_of (showing_in p)) p.figures ≡ 0)
clear c = sym (judged c.before) ∙ c.if-fault_of_figures-ne-ACCEPTED.false

fault-of-figures-requires : tie.Need-fault_of_figures-requires
fault-of-figures-requires c κs = c.requires

returns : tie.Need-returns-then-fault_of_figures-ne-ACCEPTED
returns c = not_legal (given c.before.before.before) (λ e. c.if-fault_of_figures-ne-ACCEPTED.true (judged c.before ∙ e))

plan-numbers-requires : tie.Need-plan_numbers-own-requires
plan-numbers-requires c κs = let s = c in fault_legal (visits_of (showing_in (given c.before.before.before))) (given c.before.before.before).figures (wide c.before.before.before) (clear c)

returns-2 : tie.Need-returns
returns-2 c = let o = c in
    let e = c in
    let p = given c.before.before.before.before.before.before.before in
    let own = o.plan_numbers-own.ensures in
    c.both.ensures
    ∙ ap₂ (λ (n : ℕ) (t : Bool). ltb 0 n && t) (plan_streams (showing_in p) p.figures _ own)
    (c.same_numbers.ensures p.figures ∙ ap (λ (q : Plan). same_numbers p q) own)
    ∙ numbers_decide p (clear c.before.before.before.before)

pub has_numbers_spec : {M : Type 1} → statement M
has_numbers_spec =
    tie.close
    (tie.spec
    (λ c κs. search rules)
    fault-of-figures-requires
    returns
    plan-numbers-requires
    (λ c κs. search rules)
    (λ c κs. search rules)
    returns-2)
