use Rattle.card.specs.declared.Figures.{Figures}
use Rattle.card.specs.Read.{figures_from}
use Rattle.placement.specs.Showing.{Showing}
use Rattle.plan.specs.Plan.{showing_of}
use Rattle.plan_strings.proofs.Ways.{plan_kept, plan_cleared, plan_written}
use borrow.Author.Rules.{rules}
use Rattle.plan_strings.proofs.plan_into.Statement.{statement}
use Rattle.plan_strings.proofs.plan_into.Tie as tie

abbrev figures : tie.Start → Figures
figures c = let a = c.args in figures_from a.figures a.sizes.now a.times.now a.table.now

abbrev showing : tie.Start → Showing
showing c = showing_of c.args.showing

-- where figures were planned and the answer made, and where it began
abbrev made : tie.After-struct_known-1 → tie.After-plan_legal-made
made c = c.before.before.before.before.before.before

abbrev start : tie.After-struct_known-1 → tie.Start
start c = (made c).before.before.before.before.before.before

plan-legal-requires : tie.Need-plan_legal-made-requires
plan-legal-requires c κs = c.requires.1

returns : tie.Need-returns-then-made-eq-TOO_SHORT
returns c =
    let k = c in
    let m = (made c.before).plan_legal-made.ensures in
    let s = start c.before in
    plan_kept s.args.listed (showing s) (figures s) _ _ _ s.requires.0 _ m.0 _ k.verdict_answer-answer.ensures _ _ m.2 m.3 c.if-made-eq-TOO_SHORT.true

returns-2 : tie.Need-returns-then-made-ne-ACCEPTED
returns-2 c =
    let w = c in
    let t = c in
    let e = c in
    let k = c in
    let m = (made c.before.before.before.before.before.before.before).plan_legal-made.ensures in
    let s = start c.before.before.before.before.before.before.before in
    plan_cleared s.args.listed (showing s) (figures s) _ _ _ s.requires.0 _ m.0 _ w.refused.ensures.0 _ _ m.2 m.3 e.if-made-eq-TOO_SHORT.false
    t.if-made-ne-ACCEPTED.true _ w.refused.ensures.1

returns-3 : tie.Need-returns
returns-3 c =
    let w = c in
    let t = c in
    let e = c in
    let k = c in
    let m = (made c.before.before.before.before.before.before.before.before).plan_legal-made.ensures in
    let s = start c.before.before.before.before.before.before.before.before in
    plan_written s.args.listed (showing s) (figures s) _ _ _ s.requires.0 _ m.0 _ k.verdict_answer-answer.ensures _ _ m.2 m.3
    t.if-made-ne-ACCEPTED.false _ (m.1 t.if-made-ne-ACCEPTED.false) _ w.write_parts.ensures.0

pub plan_into_spec : {M : Type 1} → statement M
plan_into_spec =
    tie.close
    (tie.spec
    plan-legal-requires
    (λ c κs. search rules)
    (λ c. search rules)
    (λ c. search rules)
    returns
    (λ c κs. search rules)
    (λ c. search rules)
    (λ c. search rules)
    (λ c. search rules)
    returns-2
    (λ c κs. search rules)
    (λ c. search rules)
    (λ c. search rules)
    (λ c. search rules)
    returns-3)
