use Prim.Native.Nat.{ℕ, ◌≤◌}
use mathlib.Core.Bool.{true}
use mathlib.Core.List.{List}
use mathlib.Core.Path.{◌≡◌, sym, ap, subst, ◌∙◌}
use native.Mathlib.Omega.{arith}
use lib.ListN.{length, take}
use borrow.Author.Rules.{rules}
use Rattle.words.specs.Words.{words_of, with_words}
use Rattle.words.specs.Laws.{words_length}
use Rattle.numbers.specs.Limits.{max_streams}
use Rattle.card.specs.Card.{Legal, total_positions, blocks_of}
use Rattle.placement.specs.Zones.{total}
use Rattle.plan.specs.Plan.{showing_of, showing_in, leads_of}
use Rattle.plan.specs.Answer.{is_plan}
use Rattle.plan.proofs.Check.{checked, checked_legal}
use Rattle.plan.specs.Disk.{Zoned, OnShelf}
use Rattle.plan.specs.Legal.{legal_zoned, total_zones}
use Rattle.plan.specs.Written.{read_on}
use Rattle.plan.proofs.Written.{written_leads, written_rows}
use Rattle.desk.specs.declared.Desk.{Desk}
use Rattle.desk.specs.Desk.{visits_in}
use Rattle.desk_layout.specs.Layout.{desk_in}
use Rattle.desk_layout.specs.Sized.{wide_in, slim_in}
use Rattle.desk_columns.specs.Films.{legal_small}
use Rattle.soundness.specs.Facts.{LeadSource}
use Rattle.soundness.specs.Tests.{tidy_found, tidy_sum}
use Rattle.soundness.specs.Ready.{plan_source, plan_streams}
use Rattle.soundness.proofs.leads.sum_short.Statement.{statement}
use Rattle.soundness.proofs.leads.sum_short.Tie as tie

-- ---- the places, each from a later one

abbrev start : tie.After-zones_in → tie.Start
start c = c.before.before.before.before

abbrev zoned : tie.After-showing_in → tie.After-zones_in
zoned c = c.before.before.before.before.before

abbrev read : tie.After-write_shelf_leads → tie.After-showing_in
read c = c.before.before.before

abbrev written : tie.After-leads-3-1 → tie.After-write_shelf_leads
written c = c.before.before

abbrev given : tie.Start → Desk
given c = desk_in (words_of c.args.desk.now)

-- ---- what is known there

legal : (c : tie.Start) → Legal (visits_in (given c).plan) (given c).plan.figures
legal c = checked_legal _ _ _ (slim_in _ c.requires.0) c.requires.2.plan

few : (c : tie.Start) → (given c).plan.streams ≤ max_streams
few c = plan_streams _ _ _ (slim_in _ c.requires.0) c.requires.2.plan

-- P
whole : (c : tie.After-sum_positions-total) → c.sum_positions-total.result ≡ total_positions (given (start c.before)).plan.figures
whole c =
    let s = start c.before in
    c.sum_positions-total.ensures
    ∙ (λ i. total (take (c.zones_in.ensures i) (s.requires.2.zones.0 i)))
    ∙ total_zones _ (legal s)

-- the list has room
roomy : (c : tie.After-zones_in) → blocks_of (given (start c)).plan.figures ≤ length (words_of c.room-leads.result)
roomy c = omega (arith, (start c).requires.1, words_length c.room-leads.result, c.room-leads.ensures)

-- the list that was written
abbrev list : tie.After-write_shelf_leads → List ℕ
list c = c.write_shelf_leads.new.leads

listed : (c : tie.After-write_shelf_leads) → (let z = zoned (read c) in
    let p = (given (start z)).plan in
    list c ≡ with_words z.room-leads.result 0 (leads_of (showing_in p) p.figures))
listed c =
    let n = read c in
    let w = n.before in
    let f = w.before in
    let b = f.before in
    let z = zoned n in
    let s = start z in
    let p = (given s).plan in
    c.write_shelf_leads.ensures
    ∙ ap (with_words z.room-leads.result 0)
    (written_rows p (slim_in _ s.requires.0) (legal s) (checked _ _ _ s.requires.2.plan).plan s.requires.2.zones.0 s.requires.2.zones.1
    b.all_lengths-lengths.ensures n.showing_in.ensures (whole b.before) f.films_in-films.ensures w.worst2_in-worst2.ensures)

source : (c : tie.After-write_shelf_leads) → (let s = start (zoned (read c)) in LeadSource true (given s).plan s.args.positions.now (list c))
source c =
    let z = zoned (read c) in
    let s = start z in
    plan_source true _ _ _ (slim_in _ s.requires.0)
    (subst (λ (ls : List ℕ). is_plan (given s).plan s.args.positions.now ls ≡ true) (sym (listed c))
    (written_leads (given s).plan (slim_in _ s.requires.0) _ z.room-leads.result (roomy z) s.requires.2.plan))

-- ---- the needs

sum-positions-requires : tie.Need-sum_positions-total-requires
sum-positions-requires c κs =
    let s = start c in (
      subst Zoned (sym s.requires.2.zones.0) (legal_zoned _ (legal s)),
      omega (arith, (legal s).zones.1, c.zones_in.ensures),
    )

-- the films on the disk, by the showing as it was read
shown-on : {sizes times blocks : List ℕ} {t n v w : ℕ} → v ≡ w → OnShelf sizes times (showing_of w) t blocks n → OnShelf sizes times (showing_of v) t blocks n
shown-on e h = rw e h

write-shelf-leads-requires : tie.Need-write_shelf_leads-requires
write-shelf-leads-requires c κs =
    let n = c in
    let f = c in
    let b = c in
    let z = zoned c.before.before in
    let s = start z in
    let d = given s in (
      shown-on n.showing_in.ensures
          (read_on (showing_in d.plan) d.plan.figures (legal s) s.requires.2.zones.0 s.requires.2.zones.1 b.all_lengths-lengths.ensures (whole c.before.before.before.before.before.before)
          f.films_in-films.ensures),
      rw (b.all_lengths-lengths.ensures, f.films_in-films.ensures) (roomy z),
    )

sum-leads-requires : tie.Need-sum_leads-requires
sum-leads-requires c κs =
    let w = written c in
    let s = start (zoned (read w)) in
    let p = s.requires.2 in (
      omega (arith, few s, p.streams),
      s.requires.0,
      tidy_found (given s) (wide_in _ s.requires.0) p.tidy (few s) (legal_small _ (legal s)) (legal s).films.0 _ _ _
          (source w) _ _ p.zones _ p.streams,
    )

returns : tie.Need-returns
returns c =
    let w = written c.before in
    let s = start (zoned (read w)) in
    let p = s.requires.2 in
    tidy_sum (given s) (wide_in _ s.requires.0) p.tidy (few s) (legal_small _ (legal s)) (legal s).films.0 _ _ _
    (source w) _ _ p.zones _ p.streams _ c.sum_leads.ensures

pub sum_short_spec : {M : Type 1} → statement M
sum_short_spec =
    tie.close
    (tie.spec
    (λ c κs. search rules)
    (λ c κs. search rules)
    sum-positions-requires
    (λ c κs. search rules)
    (λ c κs. search rules)
    (λ c κs. search rules)
    (λ c κs. search rules)
    (λ c. search rules)
    write-shelf-leads-requires
    (λ c. search rules)
    sum-leads-requires
    returns)
