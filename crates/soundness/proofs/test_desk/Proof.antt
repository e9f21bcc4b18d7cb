use Prim.Native.Nat.{ℕ, ◌≤◌}
use mathlib.Core.Path.{◌≡◌, sym, subst, ◌∙◌}
use mathlib.Core.Bool.{true, false}
use mathlib.Core.List.{List}
use native.Mathlib.Omega.{arith}
use lib.ListN.{take}
use borrow.Author.Rules.{rules}
use borrow.Author.Tests.{not-true, not-false}
use Rattle.laws.specs.Bools.{clash}
use Rattle.words.specs.Words.{words_of}
use Rattle.words.specs.Laws.{words_length}
use Rattle.legality.specs.Legality as legality
use Rattle.card.specs.Card.{Legal}
use Rattle.plan.specs.Answer.{is_plan}
use Rattle.plan.proofs.Check.{checked_legal}
use Rattle.plan.specs.Scratch.{leads_by}
use Rattle.desk.specs.declared.Desk.{Desk}
use Rattle.desk.specs.Desk.{visits_in}
use Rattle.desk.specs.Asked.{asked_count}
use Rattle.desk.specs.View.{Wide}
use Rattle.desk_layout.specs.Layout.{desk_in}
use Rattle.desk_layout.specs.RoundTrip.{DeskSized, desk_sized}
use Rattle.soundness.specs.Facts.{sound_desk, TestIs, Tells, ZonesRead, AllTidy, OthersIdle, Placed}
use Rattle.soundness.specs.declared.Test.{Test}
use Rattle.soundness.specs.Places.{AllPlaced}
use Rattle.soundness.specs.Tests.{unsound_phase, unsound_slots, unsound_places, sound_told}
use Rattle.soundness.specs.Ready.{plan_streams}
use Rattle.soundness.proofs.Tells.{fails_first, then_second}
use Rattle.soundness.proofs.test_desk.Statement.{statement}
use Rattle.soundness.proofs.test_desk.Tie as tie

-- the desk that is tested
abbrev given : tie.Start → Desk
given c = desk_in (words_of c.args.desk.now)

sized : (c : tie.Start) → DeskSized (given c)
sized c = desk_sized _ (omega (arith, words_length c.args.desk.now, c.requires))

wide : (c : tie.Start) → Wide (given c)
wide c = let z = sized c in record { kinds = z.kinds; next = z.next; held = z.held; places = z.places }

slim : (c : tie.Start) → legality.Wide (given c).plan.figures
slim c = let z = (sized c).plan in (z.positions, z.times, z.blocks, z.table)

-- ---- the places, each from a later one

abbrev read : tie.After-times-1 → tie.After-zone_times-times
read c = c.before.before

abbrev first : tie.After-times-1 → tie.Start
first c = (read c).before.before.before.before.before

abbrev start : tie.Else-not-has_plan → tie.Start
start c = first c.before.before

abbrev tidied : tie.Else-not-all_placed → tie.Else-not-slots
tidied c = c.before.before

abbrev counted : tie.Else-not-slots → tie.After-streams_in-streams
counted c = c.before.before.before

abbrev planned : tie.After-streams_in-streams → tie.Else-not-has_plan
planned c = c.before.before.before

-- ---- what is known there

-- the lead list that it goes by
abbrev leads : tie.Start → List ℕ
leads c = leads_by c.args.listed (given c).plan c.args.leads.now

-- the zones
zones : (c : tie.After-times-1) → ZonesRead (given (first c)) (read c).zone_sizes-sizes.result (read c).zone_times-times.result
zones c = ((read c).zone_sizes-sizes.ensures, (read c).zone_times-times.ensures)

-- past the check of the plan
passed : (c : tie.Else-not-has_plan) → (let s = start c in is_plan (given s).plan s.args.positions.now (leads s) ≡ true)
passed c = sym c.has_plan.ensures ∙ not-false _ c.if-not-has_plan.false-raw

legal : (c : tie.Else-not-has_plan) → Legal (visits_in (given (start c)).plan) (given (start c)).plan.figures
legal c = checked_legal _ _ _ (slim (start c)) (passed c)

few : (c : tie.Else-not-has_plan) → (given (start c)).plan.streams ≤ 256
few c = plan_streams _ _ _ (slim (start c)) (passed c)

-- past the test of the slots
slots : (c : tie.Else-not-slots) → (let d = given (start (planned (counted c))) in
    AllTidy d × OthersIdle (counted c).streams_in-streams.result d.kinds d.places)
slots c = c.test_slots-slots.ensures.slots.yes (not-false _ c.if-not-slots.false)

tidy : (c : tie.Else-not-slots) → AllTidy (given (start (planned (counted c))))
tidy c = (slots c).0

-- the test of the places
told : (c : tie.After-all_placed) → (let s = start (planned (counted c.before)) in Tells c.all_placed.result (AllPlaced (given s) (wide s)))
told c =
    let k = counted c.before in
    let d = given (start (planned k)) in
    let a = (c.test_slots-slots.ensures.count (not-false _ c.if-not-slots.false)).0 in
    subst (λ (n : ℕ). Tells c.all_placed.result (Placed (asked_count (take n d.kinds)) n d.kinds d.places)) k.streams_in-streams.ensures
    (rw a at c.all_placed.ensures)

placed : (c : tie.Else-not-all_placed) → (let s = start (planned (counted (tidied c))) in AllPlaced (given s) (wide s))
placed c = (told c.before).yes (not-false _ c.if-not-all_placed.false-raw)

-- ---- the needs

-- a record that is not sound
refuses : {d : Desk} {ps ls : List ℕ} {r : Test} → r.sound ≡ false → false ≡ sound_desk d ps ls → TestIs d ps ls r
refuses e q = record { sound = e ∙ q; leads = λ t. clash t e }

returns : tie.Need-returns-then-not-has_plan
returns c = let t = c in refuses c.unsound.ensures (fails_first _ _ (sym t.has_plan.ensures ∙ not-true _ t.if-not-has_plan.true-raw))

returns-2 : tie.Need-returns-then-phase_in-gt-SWEEPING
returns-2 c =
    let t = c in
    let e = c in
    refuses c.unsound-then-phase_in-gt-SWEEPING.ensures
    (then_second _ _ _ (passed c.before.before.before) (unsound_phase (given (start c.before.before.before)) (wide (start c.before.before.before)) (omega (arith, t.if-phase_in-gt-SWEEPING.true, t.phase_in.ensures))))

test-slots-requires : tie.Need-test_slots-slots-requires
test-slots-requires c κs = let e = planned c in
    (omega (arith, few e, c.streams_in-streams.ensures), (start e).requires, c.streams_in-streams.ensures, legal e)

returns-3 : tie.Need-returns-then-not-slots
returns-3 c =
    let u = c in
    let e = planned c.before.before.before.before in
    let s = start e in
    refuses c.unsound-then-not-slots.ensures
    (then_second _ _ _ (passed e) (unsound_slots (given s) (wide s) (λ t. u.test_slots-slots.ensures.slots.no (not-true _ u.if-not-slots.true)
    (t.0, rw u.streams_in-streams.ensures t.1))))

all-placed-requires : tie.Need-all_placed-requires
all-placed-requires c κs = let k = counted c in
    let a = c.test_slots-slots.ensures.count (not-false _ c.if-not-slots.false) in
    (omega (arith, few (planned k), k.streams_in-streams.ensures), (start (planned k)).requires, a.0, a.1, (slots c).1)

returns-4 : tie.Need-returns-then-not-all_placed
returns-4 c =
    let u = c in
    let e = planned (counted c.before.before.before) in
    let s = start e in
    refuses c.unsound-then-not-all_placed.ensures
    (then_second _ _ _ (passed e) (unsound_places (given s) (wide s) ((told c.before.before).no (not-true _ u.if-not-all_placed.true-raw))))

has-plan-requires : tie.Need-has_plan-requires
has-plan-requires c κs = ((first c).requires, zones c)

sum-next-requires : tie.Need-sum_next-sum-requires
sum-next-requires c κs = let t = tidied c.before.before in
    let k = counted t in
    let e = planned k in
    ((start e).requires, record { streams = k.streams_in-streams.ensures; zones = zones e.before.before; plan = passed e; tidy = tidy t })

low-water-requires : tie.Need-low_water-mark-requires
low-water-requires c κs = let h = legal (planned (counted (tidied c.before.before.before.before.before))) in
    rw (c.bytes_in.ensures, c.rate_in.ensures) (h.bytes.1, h.rate.1)

players-hold-requires : tie.Need-players_hold-requires
players-hold-requires c κs = let k = counted (tidied c.before.before.before.before.before.before) in
    (omega (arith, few (planned k), k.streams_in-streams.ensures), (start (planned k)).requires)

returns-5 : tie.Need-returns
returns-5 c =
    let m = c in
    let b = c in
    let l = c in
    let q = c in
    let t = tidied c.before.before.before.before.before.before.before in
    let k = counted t in
    let e = planned k in
    let s = start e in
    record {
      sound = then_second _ _ _ (passed e)
          (sound_told (given s) (wide s) _ _ _ l.sum_next-sum.ensures.sums (m.low_water-mark.ensures ∙ rw (b.bytes_in.ensures, m.rate_in.ensures))
          (omega (arith, k.if-phase_in-gt-SWEEPING.false, k.phase_in.ensures)) (tidy t) (placed c.before.before.before.before.before.before.before)
          (rw k.streams_in-streams.ensures at c.players_hold.ensures));
      leads = λ _. l.sum_next-sum.ensures;
    }

pub test_desk_spec : {M : Type 1} → statement M
test_desk_spec =
    tie.close
    (tie.spec
    (λ c κs. search rules)
    (λ c κs. search rules)
    has-plan-requires
    (λ c κs. search rules)
    returns
    (λ c κs. search rules)
    (λ c κs. search rules)
    returns-2
    (λ c κs. search rules)
    (λ c. search rules)
    test-slots-requires
    (λ c κs. search rules)
    returns-3
    all-placed-requires
    (λ c κs. search rules)
    returns-4
    sum-next-requires
    (λ c κs. search rules)
    (λ c κs. search rules)
    low-water-requires
    players-hold-requires
    returns-5)
