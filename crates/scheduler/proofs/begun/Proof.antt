use mathlib.Core.Path.{◌≡◌, sym, ap, ◌∙◌}
use borrow.Author.Rules.{rules}
use Rattle.legality.specs.Legality as legality
use Rattle.plan.specs.Scratch.{leads_by}
use Rattle.desk.specs.declared.Desk.{Desk}
use Rattle.desk.specs.Desk.{begin_desk}
use Rattle.desk.specs.View.{Wide}
use Rattle.desk.specs.Records.{not_begun}
use Rattle.sweep.specs.declared.Swept.{Swept}
use Rattle.sweep.specs.Steps.{swept_of, begun_of}
use Rattle.scheduler.specs.Ways.{begin_refused, begin_swept}
use Rattle.scheduler.proofs.begun.Statement.{statement}
use Rattle.scheduler.proofs.begun.Tie as tie

wide : (c : tie.Start) → Wide c.args.desk
wide c = record { kinds = search rules; next = search rules; held = search rules; places = search rules }

slim : (c : tie.Start) → legality.Wide c.args.desk.plan.figures
slim c = (search rules, search rules, search rules, search rules)

abbrev start : tie.After-judge_begin-swept → tie.Start
start c = c.before.before.before.before.before

-- what is judged of the string is the desk's
swept : (c : tie.After-judge_begin-swept) → (let a = (start c).args in
    c.judge_begin-swept.result ≡ swept_of (begin_desk a.desk a.positions.now (leads_by a.listed a.desk.plan a.leads.now) a.room))
swept c = let a = (start c).args in
    c.judge_begin-swept.ensures ∙
    ap (λ (d : Desk). swept_of (begin_desk d a.positions.now (leads_by a.listed d.plan a.leads.now) a.room))
    c.string_of-string.ensures.0

-- the answer's number
number : (c : tie.After-judge_begin-swept) → (let a = (start c).args in
    let ls = leads_by a.listed a.desk.plan a.leads.now in
    c.judge_begin-swept.result.verdict.number ≡ (begin_desk a.desk a.positions.now ls a.room).verdict.number)
unfolding swept_of
number c = ap (λ (s : Swept). s.verdict.number) (swept c)

returns : tie.Need-returns-then-verdict-ne-ACCEPTED
returns c =
    let j = c in
    let s = start c.before.before.before.before in
    c.not_begun.ensures ∙ ap (not_begun s.args.desk) (number c.before.before.before.before)
    ∙ begin_refused s.args.desk (wide s) (slim s) _ _ _ (λ z. c.if-verdict-ne-ACCEPTED.true (number c.before.before.before.before ∙ z))

returns-2 : tie.Need-returns
unfolding begun_of
returns-2 c =
    let e = c in
    let j = c in
    let s = start c.before.before.before.before.before.before in
    ap (begun_of s.args.desk) (swept c.before.before.before.before.before.before) ∙ begin_swept s.args.desk (wide s) (slim s) _ _ _ (sym (number c.before.before.before.before.before.before) ∙ e.if-verdict-ne-ACCEPTED.false)

pub begun_spec : {M : Type 1} → statement M
begun_spec =
    tie.close
    (tie.spec (λ c κs. search rules) (λ c. search rules) (λ c κs. search rules) (λ c κs. search rules) returns returns-2)
