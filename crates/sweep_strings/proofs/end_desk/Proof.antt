use native.Mathlib.Omega.{arith}
use borrow.Author.Rules.{rules}
use Rattle.words.specs.Words.{words_of}
use Rattle.desk.specs.declared.Desk.{Desk}
use Rattle.desk.specs.Desk.{end_desk}
use Rattle.desk_layout.specs.Layout.{desk_in}
use Rattle.ends.specs.Ends.{Ends}
use Rattle.desk_calls.specs.Calls.{said}
use Rattle.desk_calls.specs.Inner.{desk_by}
use Rattle.desk_calls.specs.Judged.{Judged}
use Rattle.sweep_strings.proofs.Sweeps.{end_left, end_told, end_put}
use Rattle.sweep_strings.proofs.end_desk.Statement.{statement}
use Rattle.sweep_strings.proofs.end_desk.Tie as tie

-- ---- the places, each from a later one

abbrev known : tie.After-judge_end-judged → tie.After-slice_known-1
known c = c.before.before.before.before

abbrev start : tie.After-judge_end-judged → tie.Start
start c = (known c).before

abbrev accepted : tie.After-all_held-held → tie.Else-judged-ne-ACCEPTED
accepted c = c.before.before.before

abbrev read : tie.After-held-1 → tie.After-all_held-held
read c = c.before.before.before

-- ---- what is known there

judged : (c : tie.After-judge_end-judged) → (let a = (start c).args in
    let ls = desk_by a.listed a.desk.now a.leads.now in
    Judged (λ (d : Desk). end_desk d a.positions.now ls a.draws.now) a.desk.now c.judge_end-judged.result)
unfolding said
judged c = record { right = (start c).requires; verdict = c.judge_end-judged.ensures; bytes = (known c).slice_known-1.given }

-- what the slots' end is told
told : (c : tie.After-all_held-held) → (let a = (start (accepted c).before.before).args in
    let n = c in
    Ends (desk_in (words_of a.desk.now)) n.all_kinds-kinds.result n.all_next-next.result c.all_held-held.result (words_of a.draws.now))
told c =
    let e = accepted c in
    let n = c in
    let t = end_told _ _ _ _ _ (judged e.before.before) e.if-judged-ne-ACCEPTED.false in
    record {
      kinds = n.all_kinds-kinds.ensures;
      next = n.all_next-next.ensures;
      held = c.all_held-held.ensures;
      wide = t.wide;
      ready = t.ready;
      drawn = t.drawn;
    }

-- ---- the needs

returns : tie.Need-returns-then-judged-ne-ACCEPTED
returns c = end_left _ _ _ _ _ (judged c.before.before.before) c.if-judged-ne-ACCEPTED.true _ c.verdict_answer.ensures

end-slots-requires : tie.Need-end_slots-requires
end-slots-requires c κs = let h = read c in (omega (arith, (start (accepted h).before.before).requires), told h)

returns-2 : tie.Need-returns
returns-2 c =
    let p = c in
    let s = c in
    let e = accepted (read c.before.before.before.before.before.before.before.before.before) in
    end_put _ _ _ _ _ (judged e.before.before) e.if-judged-ne-ACCEPTED.false _ _ _ _ _ c.verdict_answer-2.ensures s.end_slots.ensures p.put_slots.ensures

pub end_desk_spec : {M : Type 1} → statement M
end_desk_spec =
    tie.close
    (tie.spec
    (λ c κs. search rules)
    (λ c κs. search rules)
    (λ c. search rules)
    returns
    (λ c κs. search rules)
    (λ c κs. search rules)
    (λ c κs. search rules)
    end-slots-requires
    (λ c κs. search rules)
    (λ c κs. search rules)
    (λ c. search rules)
    returns-2)
