use Prim.Native.Nat.{ℕ, ◌+◌}
use native.Mathlib.Omega.{arith}
use mathlib.Core.Path.{◌≡◌, refl, sym, ap₂, subst, ◌∙◌}
use mathlib.Core.List.{List}
use borrow.Author.Rules.{rules}
use Rattle.words.specs.Words.{words_of}
use Rattle.rules.specs.Scheduler.{started, leads, low_water}
use Rattle.rules.specs.Order.{eldest_lead}
use Rattle.rules.specs.Arrays.{slots_of}
use Rattle.turns.specs.Served.{dropped_by}
use Rattle.desk.specs.declared.Desk.{Desk}
use Rattle.desk.specs.Shown.{Slots}
use Rattle.desk.specs.Desk.{supply_of, slots_in}
use Rattle.desk.specs.Records.{with_read, read_same}
use Rattle.desk.specs.Ready.{streams_are, ready_slots}
use Rattle.desk_layout.specs.Layout.{desk_in}
use Rattle.grants.specs.Grants.{InLine}
use Rattle.sweep.specs.Begins.{Serves, Served}
use Rattle.sweep.proofs.Beginning.{floor_is, floor_most, ready_queued, own_lead, ready_asked, ready_line, slots_started, asks_started, begun_all}
use Rattle.sweep.proofs.serve.Statement.{statement}
use Rattle.sweep.proofs.serve.Tie as tie

-- ---- the places, each from a later one

-- all that is read of the desk is read
abbrev start : tie.After-all_places-places → tie.Start
start c = c.before.before.before.before.before.before.before.before

abbrev lined : tie.After-line_up-count → tie.After-all_places-places
lined c = c.before.before.before.before

abbrev led : tie.After-eldest_lead-eldest → tie.After-line_up-count
led c = c.before.before

abbrev marked : tie.After-start_playing → tie.After-low_water-mark
marked c = c.before.before

abbrev played : tie.After-least_level-level → tie.After-start_playing
played c = c.before.before

abbrev floored : tie.After-line-3-1 → tie.After-low_water-floor
floored c = c.before.before

-- ---- what is known there

-- the desk in the string, and the same of what was read
abbrev given : tie.Start → Desk
given s = desk_in (words_of s.args.desk.now)

abbrev desk : tie.After-all_places-places → Desk
desk c =
    let s = start c in
    let d = given s in
    let k = c in
    let n = c in
    with_read d n.bytes_in-bytes.result n.rate_in-rate.result n.streams_in-streams.result d.plan.buffer d.plan.figures.table
    k.all_kinds-kinds.result d.next s.args.held.now c.all_places-places.result

desk-is : (c : tie.After-all_places-places) → desk c ≡ given (start c)
desk-is c =
    let s = start c in
    let k = c in
    let n = c in
    read_same (given s) n.bytes_in-bytes.ensures n.rate_in-rate.ensures n.streams_in-streams.ensures refl refl k.all_kinds-kinds.ensures refl
    s.requires.1.held c.all_places-places.ensures

abbrev Told : Desk → tie.Start → Type 0
Told d s = let a = s.args in Serves d a.listed a.held.now a.positions.now a.leads.now a.sum

told : (c : tie.After-all_places-places) → Told (desk c) (start c)
told c = let s = start c in subst (λ (d : Desk). Told d s) (sym (desk-is c)) s.requires.1

-- the leads in the line
abbrev Leads : Desk → tie.After-line_up-count → Type 0
Leads d l =
    let a = (start (lined l)).args in
    InLine a.listed d a.positions.now a.leads.now l.line_up-count.new.line l.line_up-count.result

in-line : (l : tie.After-line_up-count) → Leads (given (start (lined l))) l
in-line l = let k = lined l in
    let b = told k in
    subst (λ (d : Desk). Leads d l) (desk-is k) (ready_line (desk k) b.wide b.ready _ _ _ b.source _ _ l.line_up-count.ensures)

-- the eldest's lead
eldest-is : (c : tie.After-eldest_lead-eldest) → (let d = desk (lined (led c)) in c.eldest_lead-eldest.result ≡ eldest_lead (supply_of d.plan) (slots_in d) d.places)
eldest-is c =
    let l = led c in
    let k = lined l in
    let d = desk k in
    let b = told k in
    c.eldest_lead-eldest.ensures.0 (supply_of d.plan) d.plan.streams d.kinds d.next d.held d.places (ready_slots d b.wide b.ready)
    (ready_asked d b.wide b.ready _ _ _ b.source) l.line_up-count.ensures

-- what a filling slot must hold
mark-is : (c : tie.After-low_water-mark) → (let d = desk (lined (led c.before)) in
    let p = supply_of d.plan in c.low_water-mark.result ≡ low_water p (leads p (slots_in d) + eldest_lead p (slots_in d) d.places))
mark-is c =
    let e = c in
    let k = lined (led c.before) in
    floor_is (desk k) _ _ _ c.low_water-mark.ensures (ap₂ (λ (a b : ℕ). a + b) (told k).leads.sums (eldest-is c.before))

-- filling slots have started to play
first : (c : tie.After-start_playing) → (let m = marked c in
    let d = desk (lined (led m.before)) in
    slots_of (supply_of d.plan) c.start_playing.new.kinds d.next d.held ≡ started (supply_of d.plan) m.low_water-mark.result (slots_in d))
first c = let k = lined (led (marked c).before) in
    let d = desk k in
    let b = told k in
    c.start_playing.ensures (supply_of d.plan) d.next (ready_slots d b.wide b.ready)

slots : (c : tie.After-start_playing) → (let d = desk (lined (led (marked c).before)) in
    Slots (supply_of d.plan) d.plan.streams c.start_playing.new.kinds d.next d.held)
slots c = let k = lined (led (marked c).before) in
    let b = told k in
    slots_started (desk k) b.wide b.ready _ _ (first c)

-- both steps are done
all : (c : tie.After-grant_asked-granted) → (let d = desk (lined (led (marked (played (floored c.before).before)).before)) in
    Served d c.grant_asked-granted.new.kinds (dropped_by c.grant_asked-granted.result d.places))
all c =
    let f = floored c.before in
    let l = f.before in
    let s = played l in
    let m = marked s in
    let n = led m.before in
    let k = lined n in
    let d = desk k in
    let b = told k in
    let p = supply_of d.plan in
    begun_all d b.wide b.ready _ _ (first s) _ c.grant_asked-granted.result
    (c.grant_asked-granted.ensures p d.plan.streams d.next d.held d.places (slots s)
    (asks_started d b.wide b.ready _ _ (first s) _ _ _ _ _ (sym k.rate_in-rate.ensures)
    (own_lead d b.wide b.ready _ _ _ b.source) b.leads
    f.low_water-floor.ensures (l.least_level-level.ensures p d.next (slots s)))
    n.line_up-count.ensures)
    (mark-is m)

-- ---- the needs

line-up-requires : tie.Need-line_up-count-requires
line-up-requires c κs = let e = c in
    let k = c in
    let d = desk c.before.before.before in
    let b = told c.before.before.before in
    (streams_are d b.ready, ready_queued d b.wide b.ready, e.empty_line-line.ensures)

eldest-lead-requires : tie.Need-eldest_lead-eldest-requires
eldest-lead-requires c κs = let l = c in
    ((start (lined c.before)).requires.0, l.line_up-count.ensures.few, in-line c.before)

add-low-water : tie.Need-overflow_add-sum
add-low-water c = omega (arith, c.eldest_lead-eldest.ensures.1, (told (lined (led c))).leads.most)

low-water-requires : tie.Need-low_water-mark-requires
low-water-requires c κs = let h = (told (lined (led c))).ready.legal in (h.bytes.1, h.rate.1)

start-playing-requires : tie.Need-start_playing-requires
start-playing-requires c κs = let k = lined (led c.before.before) in
    let b = told k in
    (streams_are (desk k) b.ready, b.wide.kinds)

least-level-requires : tie.Need-least_level-level-requires
least-level-requires c κs = let k = lined (led (marked c.before).before) in streams_are (desk k) (told k).ready

low-water-requires-2 : tie.Need-low_water-floor-requires
low-water-requires-2 c κs = let h = (told (lined (led (marked (played c)).before))).ready.legal in (h.bytes.1, h.rate.1)

grant-asked-requires : tie.Need-grant_asked-granted-requires
grant-asked-requires c κs =
    let f = floored c in
    let s = played f.before in
    let n = led (marked s).before in
    let k = lined n in
    let b = told k in
    let h = b.ready.legal in (
      (start k).requires.0,
      (slots s).long,
      n.line_up-count.ensures.few,
      in-line n,
      (start k).requires.1.ready.legal.rate.1,
      floor_most _ _ _ _ f.low_water-floor.ensures h.bytes.1 h.rate.1 b.leads.most,
    )

drop-places-requires : tie.Need-drop_places-requires
drop-places-requires c κs =
    let k = lined (led (marked (played (floored c.before.before).before)).before) in
    let d = desk k in
    let b = told k in
    let q = ready_queued d b.wide b.ready in
    (streams_are d b.ready, q.long, q.unused)

returns : tie.Need-returns
returns c =
    let g = c in
    let k = lined (led (marked (played (floored c.before.before.before).before)).before) in
    subst (λ (d : Desk). Served d g.grant_asked-granted.new.kinds c.drop_places.new.places) (desk-is k)
    (subst (Served (desk k) g.grant_asked-granted.new.kinds) (sym c.drop_places.ensures) (all c.before.before))

pub serve_spec : {M : Type 1} → statement M
serve_spec =
    tie.close
    (tie.spec
    (λ c κs. search rules)
    (λ c κs. search rules)
    (λ c κs. search rules)
    (λ c. search rules)
    (λ c κs. search rules)
    (λ c κs. search rules)
    (λ c κs. search rules)
    line-up-requires
    eldest-lead-requires
    add-low-water
    low-water-requires
    start-playing-requires
    least-level-requires
    low-water-requires-2
    grant-asked-requires
    drop-places-requires
    returns)
