use Prim.Native.Nat.{ℕ, ◌/◌}
use mathlib.Core.Path.{◌≡◌, ap, ◌∙◌}
use mathlib.Core.List.{List}
use borrow.Author.Rules.{rules}
use Rattle.words.specs.Words.{words_of}
use Rattle.desk.specs.Desk.{begin_desk}
use Rattle.desk_layout.specs.Layout.{desk_in}
use Rattle.sweep.specs.declared.Swept.{Swept}
use Rattle.sweep.specs.Steps.{swept_of}
use Rattle.desk_calls.specs.Calls.{room_in, said}
use Rattle.desk_calls.specs.Inner.{desk_by}
use Rattle.desk_calls.specs.Judged.{Judged}
use Rattle.sweep_strings.proofs.Sweeps.{begun_by, begin_left, begin_room, begin_put}
use Rattle.sweep_strings.proofs.begin_desk.Statement.{statement}
use Rattle.sweep_strings.proofs.begin_desk.Tie as tie

abbrev known : tie.After-judge_begin-swept → tie.After-slice_known-1
known c = c.before.before.before.before.before

abbrev start : tie.After-judge_begin-swept → tie.Start
start c = (known c).before

-- the lead list that it goes by
abbrev leads : tie.Start → List ℕ
leads s = let a = s.args in desk_by a.listed a.desk.now a.leads.now

-- what the begin on the desk in the string changes
swept : (c : tie.After-judge_begin-swept) → (let s = start c in
    let a = s.args in
    c.judge_begin-swept.result ≡ swept_of (begin_desk (desk_in (words_of a.desk.now)) a.positions.now (leads s) (room_in a.fetches.now)))
unfolding room_in said
swept c =
    let s = start c in
    let a = s.args in
    c.judge_begin-swept.ensures ∙ ap (λ (k : ℕ). swept_of (begin_desk (desk_in (words_of a.desk.now)) a.positions.now (leads s) (k / 3)))
    c.entries-room.ensures

judged : (c : tie.After-judge_begin-swept) → (let s = start c in
    let a = s.args in
    Judged (begun_by a.positions.now (leads s) (room_in a.fetches.now)) a.desk.now c.judge_begin-swept.result.verdict)
unfolding swept_of
judged c = record {
  right = (start c).requires;
  verdict = ap (λ (s : Swept). s.verdict) (swept c);
  bytes = (known c).slice_known-1.given;
}

returns : tie.Need-returns-then-judged-ne-ACCEPTED
returns c = let j = c in begin_left _ _ _ _ _ (judged c.before.before.before.before) (swept c.before.before.before.before) c.if-judged-ne-ACCEPTED.true _ c.verdict_answer.ensures

write-begun-requires : tie.Need-write_begun-requires
write-begun-requires c κs = let e = c in let j = c in begin_room _ _ _ _ _ (judged c.before.before.before.before.before) (swept c.before.before.before.before.before)

returns-2 : tie.Need-returns
returns-2 c =
    let w = c in
    let e = c in
    let j = c in
    begin_put _ _ _ _ _ (judged c.before.before.before.before.before.before.before.before.before.before) (swept c.before.before.before.before.before.before.before.before.before.before) e.if-judged-ne-ACCEPTED.false _ _ _ w.write_begun.ensures

pub begin_desk_spec : {M : Type 1} → statement M
begin_desk_spec =
    tie.close
    (tie.spec
    (λ c κs. search rules)
    (λ c κs. search rules)
    (λ c κs. search rules)
    (λ c. search rules)
    (λ c. search rules)
    returns
    write-begun-requires
    (λ c. search rules)
    (λ c. search rules)
    returns-2)
