use mathlib.Core.Path.{◌≡◌, sym, ap, ◌∙◌}
use mathlib.Core.Bool.{true}
use Prim.Native.Nat.{ℕ}
use mathlib.Core.List.{List}
use native.Mathlib.Omega.{arith}
use borrow.Author.Rules.{rules}
use borrow.Author.Tests.{not-true, not-false}
use Rattle.words.specs.Words.{words_of}
use Rattle.plan.specs.Scratch.{leads_by}
use Rattle.desk.specs.declared.Desk.{Desk}
use Rattle.desk.specs.declared.Answer.{Answer}
use Rattle.desk_layout.specs.Layout.{desk_in}
use Rattle.desk_layout.specs.Sized.{wide_in, slim_in}
use Rattle.soundness.specs.Facts.{sound_desk}
use Rattle.soundness.specs.Ready.{plan_streams, sound_plan}
use Rattle.admission.specs.Moves.{state_verdict}
use Rattle.admission.specs.Answers.{move_unsound, move_in_sweep, move_no_slot, move_state}
use Rattle.admission.proofs.judge_move.Statement.{statement}
use Rattle.admission.proofs.judge_move.Tie as tie

-- the desk that is judged
abbrev given : tie.Start → Desk
given c = desk_in (words_of c.args.desk.now)

-- the lead list that it goes by
abbrev leads : tie.Start → List ℕ
leads c = leads_by c.args.listed (given c).plan c.args.leads.now

-- the verdict of an answer
told : {a b : Answer} → a ≡ b → a.verdict ≡ b.verdict
told e = ap (λ (a : Answer). a.verdict) e

-- ---- the places, each from a later one

abbrev start : tie.After-is_sound → tie.Start
start c = c.before.before.before.before

abbrev between : tie.After-streams_in → tie.Else-phase_in-ne-BETWEEN
between c = c.before.before

abbrev first : tie.After-streams_in → tie.Else-not-is_sound
first c = (between c).before.before

-- ---- what is known there

passed : (c : tie.Else-not-is_sound) → (let s = start c.before in sound_desk (given s) s.args.positions.now (leads s) ≡ true)
passed c = sym c.is_sound.ensures ∙ not-false _ c.if-not-is_sound.false-raw

-- ---- the needs

returns : tie.Need-returns-then-not-is_sound
returns c =
    let t = c in
    let s = start c.before.before in
    c.verdict.ensures ∙ told (move_unsound (given s) (wide_in _ s.requires) _ _ _ (sym t.is_sound.ensures ∙ not-true _ c.if-not-is_sound.true-raw))

returns-2 : tie.Need-returns-then-phase_in-ne-BETWEEN
returns-2 c =
    let p = c in
    let e = c in
    let s = start c.before.before.before.before in
    c.verdict-then-phase_in-ne-BETWEEN.ensures ∙ told (move_in_sweep (given s) (wide_in _ s.requires) _ _ _ (passed c.before.before.before) (λ z. c.if-phase_in-ne-BETWEEN.true (p.phase_in.ensures ∙ z)))

returns-3 : tie.Need-returns-then-slot-streams_in
returns-3 c =
    let n = c in
    let p = between c.before.before in
    let e = first c.before.before in
    let s = start e.before in
    c.verdict-then-slot-streams_in.ensures
    ∙ told (move_no_slot (given s) (wide_in _ s.requires) _ _ _ (passed e) (sym p.phase_in.ensures ∙ p.if-phase_in-ne-BETWEEN.false)
    (omega (arith, c.if-slot-streams_in.true, n.streams_in.ensures)))

kind-in-requires : tie.Need-kind_in-requires
kind-in-requires c κs =
    let n = c in
    let e = first c.before in
    let s = start e.before in
    (omega (arith, c.if-slot-streams_in.false, n.streams_in.ensures, plan_streams _ _ _ (slim_in _ s.requires) (sound_plan _ _ _ (passed e))), s.requires)

returns-4 : tie.Need-returns
returns-4 c =
    let b = c in
    let i = c in
    let k = c in
    let n = c in
    let p = between c.before.before.before.before.before in
    let e = first c.before.before.before.before.before in
    let s = start e.before in
    c.judge_state.ensures
    ∙ (λ t. state_verdict (k.kind_in.ensures t) (i.films_in.ensures t) (b.blocks_of.ensures t) s.args.step)
    ∙ told (move_state (given s) (wide_in _ s.requires) _ _ (slim_in _ s.requires) (passed e) (sym p.phase_in.ensures ∙ p.if-phase_in-ne-BETWEEN.false) s.args.step
    (omega (arith, k.if-slot-streams_in.false, n.streams_in.ensures)))

pub judge_move_spec : {M : Type 1} → statement M
judge_move_spec =
    tie.close
    (tie.spec
    (λ c κs. search rules)
    (λ c κs. search rules)
    returns
    (λ c κs. search rules)
    (λ c κs. search rules)
    returns-2
    (λ c. search rules)
    (λ c κs. search rules)
    (λ c. search rules)
    (λ c κs. search rules)
    returns-3
    kind-in-requires
    (λ c κs. search rules)
    (λ c κs. search rules)
    (λ c κs. search rules)
    returns-4)
