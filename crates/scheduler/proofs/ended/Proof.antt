use mathlib.Core.Path.{◌≡◌, sym, ap, ◌∙◌}
use borrow.Author.Rules.{rules}
use Rattle.card.specs.declared.Verdict.{Verdict}
use Rattle.legality.specs.Legality as legality
use Rattle.plan.specs.Scratch.{leads_by}
use Rattle.desk.specs.declared.Desk.{Desk}
use Rattle.desk.specs.Desk.{end_desk}
use Rattle.desk.specs.View.{Wide}
use Rattle.desk.specs.Records.{answers}
use Rattle.scheduler.specs.Ways.{HasEnded, end_turned_down, end_accepted}
use Rattle.scheduler.proofs.ended.Statement.{statement}
use Rattle.scheduler.proofs.ended.Tie as tie

wide : (c : tie.Start) → Wide c.args.desk
wide c = record { kinds = search rules; next = search rules; held = search rules; places = search rules }

slim : (c : tie.Start) → legality.Wide c.args.desk.plan.figures
slim c = (search rules, search rules, search rules, search rules)

abbrev start : tie.After-judge_end-verdict → tie.Start
start c = c.before.before.before.before.before.before

-- what is judged of the string is the desk's
judged : (c : tie.After-judge_end-verdict) → (let a = (start c).args in
    c.judge_end-verdict.result ≡ (end_desk a.desk a.positions.now (leads_by a.listed a.desk.plan a.leads.now) a.draws.now).verdict)
judged c = let a = (start c).args in
    c.judge_end-verdict.ensures ∙
    ap (λ (d : Desk). (end_desk d a.positions.now (leads_by a.listed d.plan a.leads.now) a.draws.now).verdict)
    c.string_of-string.ensures.0

-- past the judge
ended : (c : tie.Else-verdict-ne-ACCEPTED) → (let s = start c.before.before in HasEnded s.args.desk (wide s) (slim s) s.args.positions.now
    (leads_by s.args.listed s.args.desk.plan s.args.leads.now) s.args.draws.now)
ended c = let j = c in
    let s = start c.before.before in
    end_accepted s.args.desk (wide s) (slim s) _ _ _ (ap (λ (v : Verdict). v.number) (sym (judged c.before.before)) ∙ c.if-verdict-ne-ACCEPTED.false)

returns : tie.Need-returns-then-verdict-ne-ACCEPTED
returns c =
    let k = c in
    let s = start c.before.before in
    let j = judged c.before.before in
    (λ t. record { verdict = j t; desk = s.args.desk })
    ∙ end_turned_down s.args.desk (wide s) (slim s) _ _ _ (λ z. c.if-verdict-ne-ACCEPTED.true (ap (λ (v : Verdict). v.number) j ∙ z))

end-sweep-requires : tie.Need-end_sweep-requires
end-sweep-requires c κs = ((ended c).ready, (ended c).drawn)

returns-2 : tie.Need-returns
returns-2 c = c.answer_with.ensures ∙ ap (λ (d : Desk). answers d 0 0) c.end_sweep.ensures ∙ (ended c.before.before).answer

pub ended_spec : {M : Type 1} → statement M
ended_spec =
    tie.close
    (tie.spec (λ c κs. search rules) (λ c. search rules) (λ c κs. search rules) returns end-sweep-requires (λ c κs. search rules) returns-2)
