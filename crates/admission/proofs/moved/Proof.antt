use mathlib.Core.Path.{◌≡◌, sym, ap, subst, ◌∙◌}
use native.Mathlib.Omega.{arith}
use borrow.Author.Rules.{rules}
use Rattle.legality.specs.Legality as legality
use Rattle.card.specs.declared.Verdict.{Verdict}
use Rattle.plan.specs.Scratch.{leads_by}
use Rattle.desk.specs.declared.Desk.{Desk}
use Rattle.desk.specs.View.{Wide}
use Rattle.desk.specs.Records.{answers, with_slot}
use Rattle.words.specs.Words.{words_of}
use Rattle.desk_layout.specs.Layout.{desk_in}
use Rattle.admission.specs.Moves.{move_desk, kind_after, next_after}
use Rattle.admission.specs.Places.{places_after, Movable}
use Rattle.admission.specs.Answers.{move_refused, move_made, sound_movable}
use Rattle.admission.proofs.moved.Statement.{statement}
use Rattle.admission.proofs.moved.Tie as tie

wide : (c : tie.Start) → Wide c.args.desk
wide c = record { kinds = search rules; next = search rules; held = search rules; places = search rules }

slim : (c : tie.Start) → legality.Wide c.args.desk.plan.figures
slim c = (search rules, search rules, search rules, search rules)

abbrev start : tie.After-judge_move-verdict → tie.Start
start c = c.before.before.before.before.before

-- what is judged of the string is the desk's
judged : (c : tie.After-judge_move-verdict) → (let a = (start c).args in
    c.judge_move-verdict.result ≡ (move_desk a.desk a.positions.now (leads_by a.listed a.desk.plan a.leads.now) a.step).verdict)
judged c = let a = (start c).args in
    c.judge_move-verdict.ensures ∙
    ap (λ (d : Desk). (move_desk d a.positions.now (leads_by a.listed d.plan a.leads.now) a.step).verdict)
    c.string_of-string.ensures.0

number : (c : tie.After-judge_move-verdict) → (let a = (start c).args in
    c.judge_move-verdict.result.number ≡ (move_desk a.desk a.positions.now (leads_by a.listed a.desk.plan a.leads.now) a.step).verdict.number)
number c = ap (λ (v : Verdict). v.number) (judged c)

returns : tie.Need-returns-then-verdict-ne-ACCEPTED
returns c =
    let j = c in
    let s = start c.before.before in
    let r = move_refused s.args.desk (wide s) _ _ _ (λ z. c.if-verdict-ne-ACCEPTED.true (number c.before.before ∙ z)) in
    λ t. record { verdict = judged c.before.before t; desk = sym r t }

-- past the judgement
abbrev passed : tie.Else-verdict-ne-ACCEPTED → tie.After-judge_move-verdict
passed e = e.before.before

made : (e : tie.Else-verdict-ne-ACCEPTED) → (let a = (start (passed e)).args in Movable a.desk a.step
    × (answers (with_slot a.desk a.step.slot (kind_after a.step) (next_after a.step) (places_after a.desk a.step)) 0 0
    ≡ move_desk a.desk a.positions.now (leads_by a.listed a.desk.plan a.leads.now) a.step))
made e =
    let s = start (passed e) in
    let m = move_made s.args.desk (wide s) _ _ _ (slim s) (sym (number (passed e)) ∙ e.if-verdict-ne-ACCEPTED.false) in
    (sound_movable s.args.desk (wide s) _ _ m.0 (slim s) s.args.step m.3 m.1, m.2)

-- the string says the desk
said : (e : tie.Else-verdict-ne-ACCEPTED) → (let j = passed e in desk_in (words_of j.string_of-string.result) ≡ (start j).args.desk)
said e = (passed e).string_of-string.ensures.0

places-after-requires : tie.Need-places_after-places-requires
places-after-requires c κs =
    let e = c in
    let m = (made c.before.before).0 in
    (omega (arith, (passed c.before.before).string_of-string.ensures.1), subst (λ (d : Desk). Movable d (start (passed c.before.before)).args.step) (sym (said c.before.before)) m)

with-slot-requires : tie.Need-with_slot-requires
with-slot-requires c κs = let m = (made c.before.before.before.before.before).0 in omega (arith, m.few, m.inside)

returns-2 : tie.Need-returns
returns-2 c =
    let w = c in
    let n = c in
    let k = c in
    let q = c in
    let e = c in
    let a = (start (passed c.before.before.before.before.before.before.before)).args in
    c.answer_with.ensures
    ∙ ap (λ (d : Desk). answers d 0 0) (w.with_slot.ensures
    ∙ λ t. with_slot a.desk a.step.slot (k.kind_after.ensures t) (n.next_after.ensures t)
    ((q.places_after-places.ensures ∙ ap (λ (d : Desk). places_after d a.step) (said c.before.before.before.before.before.before.before)) t))
    ∙ (made c.before.before.before.before.before.before.before).1

pub moved_spec : {M : Type 1} → statement M
moved_spec =
    tie.close
    (tie.spec
    (λ c κs. search rules)
    (λ c. search rules)
    (λ c κs. search rules)
    returns
    (λ c. search rules)
    (λ c. search rules)
    places-after-requires
    (λ c κs. search rules)
    (λ c κs. (made c.before.before.before.before).0.named)
    with-slot-requires
    (λ c κs. search rules)
    returns-2)
