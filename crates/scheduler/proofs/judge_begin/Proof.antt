use Prim.Native.Nat.{ℕ, ◌*◌}
use mathlib.Core.Path.{◌≡◌, sym, ap, ap₂, ◌∙◌}
use mathlib.Core.Bool.{true}
use mathlib.Core.List.{List}
use native.Mathlib.Omega.{arith}
use borrow.Author.Rules.{rules}
use borrow.Author.Tests.{not-true, not-false}
use Rattle.numbers.specs.Refusals.{too_short, not_sound, wrong_phase}
use Rattle.legality.specs.Legality as legality
use Rattle.words.specs.Words.{words_of}
use Rattle.plan.specs.Scratch.{leads_by}
use Rattle.desk.specs.declared.Desk.{Desk}
use Rattle.desk.specs.Desk.{visits_in}
use Rattle.desk.specs.View.{Wide}
use Rattle.desk.specs.Ready.{Ready, visits_are}
use Rattle.desk_layout.specs.Layout.{desk_in}
use Rattle.desk_layout.specs.Sized.{wide_in, slim_in}
use Rattle.soundness.specs.Facts.{sound_desk}
use Rattle.soundness.specs.Ready.{sound_ready, sound_plan}
use Rattle.sweep.specs.Steps.{swept_of}
use Rattle.sweep.specs.Kept.{not_swept_law}
use Rattle.scheduler.specs.Answers.{begin_unsound, begin_in_sweep, begin_no_room, begin_begun}
use Rattle.scheduler.proofs.judge_begin.Statement.{statement}
use Rattle.scheduler.proofs.judge_begin.Tie as tie

-- the desk that is judged
abbrev given : tie.Start → Desk
given c = desk_in (words_of c.args.desk.now)

wide : (c : tie.Start) → Wide (given c)
wide c = wide_in c.args.desk.now c.requires

slim : (c : tie.Start) → legality.Wide (given c).plan.figures
slim c = slim_in c.args.desk.now c.requires

-- the lead list that it goes by
abbrev leads : tie.Start → List ℕ
leads c = leads_by c.args.listed (given c).plan c.args.leads.now

-- ---- the places, each from a later one

abbrev start : tie.After-test_desk-test → tie.Start
start c = c.before.before.before.before

abbrev tested : tie.After-if-not → tie.After-test_desk-test
tested c = c.before.before

abbrev between : tie.After-streams_in → tie.Else-phase_in-ne-BETWEEN
between c = c.before.before

-- the place past the test of soundness
abbrev first : tie.After-streams_in → tie.After-if-not
first c = (between c).before.before

-- ---- what is known there

passed : (c : tie.After-if-not) → (let s = start (tested c) in sound_desk (given s) s.args.positions.now (leads s) ≡ true)
passed c = sym (tested c).test_desk-test.ensures.sound ∙ not-false _ c.if-not-test.false

ready : (c : tie.After-if-not) → Ready (given (start (tested c)))
ready c = sound_ready _ _ _ (slim (start (tested c))) (passed c)

-- the entries that n blocks may give
entries : (c : tie.After-streams_in) → (let p = (given (start (tested (first c)))).plan in
    c.visits_in.result * c.streams_in.result ≡ visits_in p * p.streams)
entries c = ap₂ (λ (v n : ℕ). v * n) c.visits_in.ensures c.streams_in.ensures

-- ---- the needs

returns : tie.Need-returns-then-not-test
returns c =
    let t = c in
    let s = start c.before.before.before in
    c.not_swept.ensures ∙ not_swept_law (given s) not_sound
    ∙ ap swept_of (begin_unsound (given s) (wide s) _ _ _ (sym t.test_desk-test.ensures.sound ∙ not-true _ c.if-not-test.true))

returns-2 : tie.Need-returns-then-phase_in-ne-BETWEEN
returns-2 c =
    let p = c in
    let e = c in
    let s = start (tested c.before.before.before) in
    c.not_swept-then-phase_in-ne-BETWEEN.ensures ∙ not_swept_law (given s) wrong_phase
    ∙ ap swept_of (begin_in_sweep (given s) (wide s) _ _ _ (passed c.before.before.before) (λ z. c.if-phase_in-ne-BETWEEN.true (p.phase_in.ensures ∙ z)))

mul-room : tie.Need-overflow_mul-visits_in
mul-room c = omega (arith, entries c, (visits_are _ (ready (first c))).few)

cast-room : tie.Need-overflow_cast-visits_in
cast-room c = omega (arith, entries c, (visits_are _ (ready (first c))).few)

returns-3 : tie.Need-returns-then-room-visits_in
returns-3 c =
    let n = c in
    let p = between c.before.before in
    let e = first c.before.before in
    let s = start (tested e) in
    c.not_swept-then-room-visits_in.ensures ∙ not_swept_law (given s) too_short
    ∙ ap swept_of (begin_no_room (given s) (wide s) _ _ _ (passed e) (sym p.phase_in.ensures ∙ p.if-phase_in-ne-BETWEEN.false)
    (omega (arith, c.if-room-visits_in.true, entries c.before.before)))

begin-sweep-requires : tie.Need-begin_sweep-requires
begin-sweep-requires c κs =
    let e = first c.before in
    let t = tested e in
    let s = start t in (
      s.requires,
      record {
        wide = wide s;
        slim = slim s;
        ready = ready e;
        plan = sound_plan _ _ _ (passed e);
        leads = t.test_desk-test.ensures.leads (not-false _ e.if-not-test.false);
      },
    )

returns-4 : tie.Need-returns
returns-4 c =
    let o = c in
    let n = c in
    let p = between c.before.before in
    let e = first c.before.before in
    let s = start (tested e) in
    c.begin_sweep.ensures
    ∙ ap swept_of (begin_begun (given s) (wide s) _ _ _ (passed e) (sym p.phase_in.ensures ∙ p.if-phase_in-ne-BETWEEN.false)
    (omega (arith, o.if-room-visits_in.false, entries c.before.before)))

pub judge_begin_spec : {M : Type 1} → statement M
judge_begin_spec =
    tie.close
    (tie.spec
    (λ c κs. search rules)
    (λ c κs. search rules)
    returns
    (λ c κs. search rules)
    (λ c κs. search rules)
    returns-2
    (λ c κs. search rules)
    (λ c κs. search rules)
    mul-room
    cast-room
    (λ c κs. search rules)
    returns-3
    begin-sweep-requires
    returns-4)
