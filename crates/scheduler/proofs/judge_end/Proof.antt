use Prim.Native.Nat.{ℕ, ◌-◌, ◌≤◌}
use mathlib.Core.Path.{◌≡◌, refl, sym, ap, subst, ◌∙◌}
use mathlib.Core.Bool.{true}
use mathlib.Core.List.{List}
use native.Mathlib.Omega.{arith}
use borrow.Author.Rules.{rules}
use borrow.Author.Tests.{not-true, not-false}
use Rattle.numbers.specs.Limits.{max_streams}
use Rattle.numbers.specs.Slots.{sweeping}
use Rattle.card.specs.CardLaws.{table_range}
use Rattle.words.specs.Words.{words_of}
use Rattle.plan.specs.Scratch.{leads_by}
use Rattle.desk.specs.declared.Desk.{Desk}
use Rattle.desk.specs.declared.Answer.{Answer}
use Rattle.desk.specs.Desk.{visits_in, supply_of, view_of, end_desk}
use Rattle.desk.specs.Records.{with_read, read_same}
use Rattle.desk.specs.View.{Wide}
use Rattle.desk.specs.Ready.{Ready, visits_are, streams_are, buffer_has}
use Rattle.desk_layout.specs.Layout.{desk_in}
use Rattle.desk_layout.specs.Sized.{wide_in, slim_in}
use Rattle.soundness.specs.Facts.{sound_desk}
use Rattle.soundness.specs.Ready.{sound_ready, sound_plan}
use Rattle.desk.specs.Shown.{Visits, Gathered}
use Rattle.fetches.specs.Told.{Timed}
use Rattle.gather.specs.Gather.{Reached, Collected, gathered}
use Rattle.sweep.specs.Gathered.{Reading, reached, gathers, in_range}
use Rattle.scheduler.specs.Answers.{end_unsound, end_between, end_judged}
use Rattle.scheduler.proofs.Sweeping.{timed, sweeps}
use Rattle.scheduler.proofs.judge_end.Statement.{statement}
use Rattle.scheduler.proofs.judge_end.Tie as tie

-- the desk that is judged
abbrev given : tie.Start → Desk
given c = desk_in (words_of c.args.desk.now)

-- the lead list that it goes by
abbrev leads : tie.Start → List ℕ
leads c = leads_by c.args.listed (given c).plan c.args.leads.now

-- the verdict of an answer
told : {a b : Answer} → a ≡ b → a.verdict ≡ b.verdict
told e = ap (λ (a : Answer). a.verdict) e

-- ---- the places, each from a later one

abbrev start : tie.After-is_sound → tie.Start
start c = c.before.before.before.before.before

abbrev tested : tie.Else-not-is_sound → tie.After-is_sound
tested c = c.before

abbrev buffered : tie.After-all_kinds-kinds → tie.After-buffer_in
buffered c = c.before.before.before

abbrev between : tie.After-buffer_in → tie.Else-phase_in-ne-SWEEPING
between c = c.before.before.before.before

abbrev passing : tie.After-buffer_in → tie.Else-not-is_sound
passing c = (between c).before.before

abbrev bounding : tie.After-sweep_bound-bound → tie.After-gather
bounding c = c.before.before.before.before.before

-- ---- what is known there

-- past the test of soundness
passed : (c : tie.Else-not-is_sound) → (let s = start (tested c) in sound_desk (given s) s.args.positions.now (leads s) ≡ true)
passed c = sym (tested c).is_sound.ensures ∙ not-false _ c.if-not-is_sound.false-raw

-- what was read of the desk, and that it is the desk
abbrev desk : tie.After-all_kinds-kinds → Desk
desk c =
    let b = buffered c in
    let r = b.before.before in
    let d = given (start (tested (passing b))) in
    with_read d r.bytes_in-bytes.result r.rate_in-rate.result b.streams_in-streams.result b.buffer_in.result
    c.overheads-table.result c.all_kinds-kinds.result d.next c.all_held-held.result d.places

desk-is : (c : tie.After-all_kinds-kinds) → desk c ≡ given (start (tested (passing (buffered c))))
desk-is c =
    let b = buffered c in
    let r = b.before.before in
    read_same (given (start (tested (passing b)))) r.bytes_in-bytes.ensures r.rate_in-rate.ensures b.streams_in-streams.ensures b.buffer_in.ensures
    c.overheads-table.ensures c.all_kinds-kinds.ensures refl c.all_held-held.ensures refl

-- what is known of the desk
record Judged (d : Desk) (ps ls : List ℕ) : Type 0 where
  wide : Wide d
  sound : sound_desk d ps ls ≡ true
  ready : Ready d
  phase : d.phase ≡ sweeping

judged : (c : tie.After-all_kinds-kinds) → (let s = start (tested (passing (buffered c))) in Judged (desk c) s.args.positions.now (leads s))
judged c =
    let b = buffered c in
    let e = passing b in
    let s = start (tested e) in
    let p = between b in
    subst (λ (d : Desk). Judged d s.args.positions.now (leads s)) (sym (desk-is c))
    (record {
      wide = wide_in s.args.desk.now s.requires;
      sound = passed e;
      ready = sound_ready _ _ _ (slim_in s.args.desk.now s.requires) (passed e);
      phase = sym p.phase_in.ensures ∙ p.if-phase_in-ne-SWEEPING.false;
    })

-- what was gathered
abbrev value : tie.After-gather → Gathered
value c = gathered c.gather.new.found c.gather.new.spots c.gather.new.others

-- where all that is read of the desk is read
abbrev seen : tie.After-gather → tie.After-visits_in-visits
seen c = c.before.before.before.before.before.before.before.before

abbrev read : tie.After-gather → tie.After-all_kinds-kinds
read c = (seen c).before

-- of a desk d, whose kinds are as they were read
abbrev Collects : Desk → ℕ → tie.After-gather → Type 0
Collects d v c = let k = read c in
    Collected d (start (tested (passing (buffered k)))).args.positions.now v (desk k).kinds (desk k).plan.streams (value c)

collected : (c : tie.After-gather) → (let d = desk (read c) in Collects d (visits_in d.plan) c)
collected c = let k = read c in
    subst (λ (v : ℕ). Collects (desk k) v c) (seen c).visits_in-visits.ensures
    (subst (λ (d : Desk). Collects d (seen c).visits_in-visits.result c) (sym (desk-is k)) c.gather.ensures)

-- they are its own
same : (d : Desk) → Reading d d.kinds
same d i a b = (omega arith, b)

-- what is asked for the gathering
abbrev Reachable : Desk → ℕ → ℕ → List ℕ → List ℕ → Type 0
Reachable d n v ks ps = (n ≤ max_streams) × Reached d ps v ks n

-- ---- the needs

returns : tie.Need-returns-then-not-is_sound
returns c =
    let t = c in
    let s = start c.before.before in
    c.verdict.ensures ∙ told (end_unsound (given s) (wide_in _ s.requires) _ _ _ (sym t.is_sound.ensures ∙ not-true _ c.if-not-is_sound.true-raw))

returns-2 : tie.Need-returns-then-phase_in-ne-SWEEPING
returns-2 c =
    let p = c in
    let e = c in
    let s = start (tested c.before.before.before) in
    c.verdict-then-phase_in-ne-SWEEPING.ensures ∙ told (end_between (given s) (wide_in _ s.requires) _ _ _ (passed c.before.before.before) (λ z. c.if-phase_in-ne-SWEEPING.true (p.phase_in.ensures ∙ z)))

sub-room : tie.Need-overflow_sub-room
sub-room c =
    let e = passing c in
    let s = start (tested e) in
    let r = sound_ready _ _ _ (slim_in _ s.requires) (passed e) in
    omega (arith, buffer_has (given s).plan r.planned, c.buffer_in.ensures, c.bytes_in-bytes.ensures)

gather-requires : tie.Need-gather-requires
gather-requires c κs =
    let z = c in
    let v = c in
    let k = c in
    let s = start (tested (passing (buffered c.before.before.before.before.before.before.before.before))) in
    let j = judged c.before.before.before.before.before.before.before.before in
    let p = sound_plan _ _ _ j.sound in
    let d = desk c.before.before.before.before.before.before.before.before in
    let r = subst (λ (n : ℕ). Reachable (given s) d.plan.streams n d.kinds s.args.positions.now) (sym v.visits_in-visits.ensures)
    (subst (λ (e : Desk). Reachable e d.plan.streams (visits_in e.plan) d.kinds s.args.positions.now) (desk-is c.before.before.before.before.before.before.before.before)
    (streams_are d j.ready, reached d j.wide j.ready _ _ p d.kinds (same d)))
    in
    (s.requires, r.0, r.1, z.zeros-times.ensures, z.zeros-spots.ensures, z.zeros-others.ensures)

sweep-bound-requires : tie.Need-sweep_bound-bound-requires
sweep-bound-requires c κs =
    let g = c in
    let k = read c.before.before.before.before in
    let j = judged k in
    let i = in_range (desk k) j.wide j.ready _ _ (sound_plan _ _ _ j.sound) _ (same (desk k)) (value c.before.before.before.before) (collected c.before.before.before.before) in (
      subst (λ (v : ℕ). Visits v (desk k).plan.streams) (sym (seen c.before.before.before.before).visits_in-visits.ensures) (visits_are _ j.ready),
      i.times,
      λ k h. (table_range _ j.ready.legal k h).1,
    )

judge-draws-requires : tie.Need-judge_draws-requires
judge-draws-requires c κs = let k = read (bounding c.before.before.before) in streams_are _ (judged k).ready

returns-3 : tie.Need-returns
returns-3 c =
    let m = c in
    let b = c in
    let g = bounding c.before.before.before.before in
    let k = read g in
    let s = start (tested (passing (buffered k))) in
    let a = s.args in
    let d = desk k in
    let j = judged k in
    let p = supply_of d.plan in
    let f = gathers d j.wide j.ready _ _ (sound_plan _ _ _ j.sound) _ (same d) (value g) (collected g) in
    let told = subst
    (λ (v : ℕ). Timed p d.plan.streams (d.plan.buffer - d.plan.figures.bytes) v d.plan.figures.table d.kinds d.next d.held
    (value g).times)
    (sym (seen g).visits_in-visits.ensures) (timed d j.wide j.ready (value g) f)
    in
    let t = b.sweep_bound-bound.ensures p d.next told in
    c.judge_draws.ensures p (view_of d) d.next (sweeps d j.wide j.ready j.phase _ _ t m.most_drawn.ensures)
    ∙ end_judged d j.wide _ _ _ j.sound
    ∙ ap (λ (e : Desk). (end_desk e a.positions.now (leads s) a.draws.now).verdict) (desk-is k)

pub judge_end_spec : {M : Type 1} → statement M
judge_end_spec =
    tie.close
    (tie.spec
    (λ c κs. search rules)
    (λ c κs. search rules)
    returns
    (λ c κs. search rules)
    (λ c κs. search rules)
    returns-2
    (λ c κs. search rules)
    (λ c κs. search rules)
    (λ c κs. search rules)
    (λ c. search rules)
    (λ c κs. search rules)
    sub-room
    (λ c κs. search rules)
    (λ c κs. search rules)
    (λ c κs. search rules)
    (λ c κs. search rules)
    (λ c κs. search rules)
    (λ c κs. search rules)
    (λ c κs. search rules)
    gather-requires
    sweep-bound-requires
    (λ c κs. search rules)
    judge-draws-requires
    returns-3)
