use Prim.Native.Nat.{ℕ}
use mathlib.Core.Path.{◌≡◌, sym, ◌∙◌}
use mathlib.Core.Bool.{Bool, cond}
use mathlib.Core.List.{List}
use Rattle.card.specs.declared.CardRead.{CardRead}
use Rattle.card.specs.Read.{accepted}
use Rattle.placement.specs.Showing.{Showing}
use Rattle.plan.specs.declared.Planned.{Planned}
use Rattle.plan.specs.Plan.{showing_of, plan_of, positions_of, leads_of}
use Rattle.plan.specs.Answer.{fault_after, refusal, filled}
use Rattle.plan.specs.Scratch.{leads_lent}
use Rattle.plan.specs.Ways.{Lists, Outcome, by_figures, by_none, by_lists}
use Rattle.plan.proofs.Ways.{by_refusal}
use Rattle.planner.proofs.figures.plan_figures.Goals as goal

-- the figures are accepted, and planned
module _ (listed : Bool) (x : Showing) (r : CardRead) (ps ls : List ℕ) (e : r.verdict.number ≡ 0) where
  abbrev lent : List ℕ
  lent = leads_lent listed x r.figures ls

  abbrev fault : ℕ
  fault = fault_after x r ps lent

  module _ (n : ℕ) (made : n ≡ fault) (qs ms : List ℕ) (first : qs ≡ filled 0 fault ps (positions_of x r.figures))
      (second : ms ≡ cond listed (filled 0 fault ls (leads_of x r.figures)) ls) where
    lists : Lists listed x r ps ls qs ms
    lists = by_lists listed x r ps ls e qs ms first second

    -- 13 or 12
    by-fault : (n ≡ 0 → ⊥) → Outcome listed x r ps ls (refusal n 0) qs ms
    by-fault h = (by_refusal x r ps lent n e made h, lists.0, lists.1)

    -- a plan
    by-made : n ≡ 0 → (a : Planned) → a.verdict ≡ accepted → a.plan ≡ plan_of x r.figures → Outcome listed x r ps ls a qs ms
    by-made z a v d = ((λ i. record { verdict = v i; plan = d i }) ∙ by_none x r ps lent e (sym made ∙ z), lists.0, lists.1)

pub returns-then-verdict-ne-ACCEPTED : goal.returns-then-verdict-ne-ACCEPTED
returns-then-verdict-ne-ACCEPTED c =
    let a = c.args in
    let o = by_figures a.listed (showing_of a.showing) a.read a.positions.now a.leads.now c.if-verdict-ne-ACCEPTED.true in
    (c.refused.ensures ∙ o.0, o.1, o.2)

pub plan_legal-made-requires : goal.plan_legal-made-requires
plan_legal-made-requires c = c.requires c.if-verdict-ne-ACCEPTED.false

pub returns-then-made-ne-ACCEPTED : goal.returns-then-made-ne-ACCEPTED
returns-then-made-ne-ACCEPTED c =
    let a = c.args in
    let r = c.plan_legal-made.ensures in
    let o = by-fault a.listed (showing_of a.showing) a.read a.positions.now a.leads.now c.if-verdict-ne-ACCEPTED.false _ r.0 _ _ r.2 r.3 in
    let k = o c.if-made-ne-ACCEPTED.true in
    (c.refused-then-made-ne-ACCEPTED.ensures ∙ k.0, k.1, k.2)

pub returns : goal.returns
returns c =
    let p = c.planned_with.ensures in
    let a = c.args in
    let r = c.plan_legal-made.ensures in
    by-made a.listed (showing_of a.showing) a.read a.positions.now a.leads.now c.if-verdict-ne-ACCEPTED.false _ r.0 _ _ r.2 r.3
    c.if-made-ne-ACCEPTED.false _ p.0 (p.1 ∙ r.1 c.if-made-ne-ACCEPTED.false)
