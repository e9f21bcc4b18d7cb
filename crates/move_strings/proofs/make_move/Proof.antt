use borrow.Author.Rules.{rules}
use Rattle.desk.specs.declared.Desk.{Desk}
use Rattle.admission.specs.Moves.{move_desk}
use Rattle.desk_calls.specs.Calls.{said}
use Rattle.desk_calls.specs.Inner.{move_answer, move_string, desk_by}
use Rattle.desk_calls.specs.Judged.{other_call, Judged}
use Rattle.move_strings.proofs.Moves.{move_left, move_told, move_put}
use Rattle.move_strings.proofs.make_move.Statement.{statement}
use Rattle.move_strings.proofs.make_move.Tie as tie

-- ---- the places, each from a later one

-- the string has the right length
abbrev right : tie.After-judge_move-judged → tie.Else-desk-ne-DESK_BYTES
right c = c.before

abbrev start : tie.After-judge_move-judged → tie.Start
start c = (right c).before.before.before.before

-- ---- what is known there

judged : (c : tie.After-judge_move-judged) → (let a = (start c).args in
    let ls = desk_by a.listed a.desk.now a.leads.now in
    Judged (λ (d : Desk). move_desk d a.positions.now ls a.step) a.desk.now c.judge_move-judged.result)
unfolding said
judged c = record { right = (right c).if-desk-ne-DESK_BYTES.false; verdict = c.judge_move-judged.ensures; bytes = (right c).slice_known-1.given }

-- ---- the needs

returns : tie.Need-returns-then-desk-ne-DESK_BYTES
unfolding move_answer move_string
returns c = other_call _ _ _ _ c.if-desk-ne-DESK_BYTES.true c.number_answer.ensures

returns-2 : tie.Need-returns-then-judged-ne-ACCEPTED
returns-2 c = move_left _ _ _ _ _ (judged c.before.before.before) c.if-judged-ne-ACCEPTED.true _ c.verdict_answer.ensures

write-move-requires : tie.Need-write_move-requires
write-move-requires c κs = let e = c in move_told _ _ _ _ _ (judged c.before.before.before) e.if-judged-ne-ACCEPTED.false

returns-3 : tie.Need-returns
returns-3 c =
    let w = c in
    let e = c in
    move_put _ _ _ _ _ (judged c.before.before.before.before.before.before.before) e.if-judged-ne-ACCEPTED.false _ _ c.verdict_answer-2.ensures w.write_move.ensures

pub make_move_spec : {M : Type 1} → statement M
make_move_spec =
    tie.close
    (tie.spec
    (λ c κs. search rules)
    returns
    (λ c κs. search rules)
    (λ c κs. search rules)
    (λ c. search rules)
    returns-2
    write-move-requires
    (λ c κs. search rules)
    (λ c. search rules)
    returns-3)
