use native.Mathlib.Omega.{arith}
use Prim.Native.Nat.{ℕ}
use mathlib.Core.Path.{◌≡◌, refl, sym, ap, subst, ◌∙◌}
use mathlib.Core.Bool.{true}
use mathlib.Core.List.{List}
use borrow.Author.Rules.{rules}
use Rattle.card.specs.CardLaws.{table_range}
use Rattle.words.specs.Words.{words_of}
use Rattle.plan.specs.Answer.{is_plan}
use Rattle.plan.specs.Scratch.{leads_by}
use Rattle.desk.specs.declared.Desk.{Desk}
use Rattle.desk.specs.Shown.{Visits, Gathered, Gathers, InRange}
use Rattle.desk.specs.Desk.{visits_in, supply_of}
use Rattle.desk.specs.Records.{with_read, read_same}
use Rattle.desk.specs.Ready.{visits_are, streams_are, buffer_has}
use Rattle.desk_layout.specs.Layout.{desk_in}
use Rattle.soundness.specs.Ready.{plan_source}
use Rattle.gather.specs.Gather.{Reached, Collected, gathered}
use Rattle.sweep.specs.Begins.{Served, Begins}
use Rattle.sweep.specs.Gathered.{reached, gathers, in_range}
use Rattle.sweep.specs.Steps.{begun_desk, swept_of}
use Rattle.sweep.proofs.Beginning.{reading_begun, timed_begun, positioned_begun, begun_is}
use Rattle.sweep.proofs.begin_sweep.Statement.{statement}
use Rattle.sweep.proofs.begin_sweep.Tie as tie

-- ---- the places, each from a later one

abbrev sized : tie.After-all_held-held → tie.After-bytes_in
sized c = c.before.before.before

abbrev start : tie.After-bytes_in → tie.Start
start c = c.before.before.before.before.before.before.before

-- all that is read of the desk is read
abbrev read : tie.After-serve-served → tie.After-all_held-held
read c = c.before.before

abbrev served : tie.After-zeros-others → tie.After-serve-served
served c = c.before.before.before.before.before

abbrev gathering : tie.After-gather → tie.After-zeros-others
gathering c = c.before.before.before.before.before

abbrev bounding : tie.After-sweep_bound-bound → tie.After-gather
bounding c = c.before.before.before.before.before

abbrev listing : tie.After-list_fetches-fetches → tie.After-sweep_bound-bound
listing c = c.before.before.before.before.before.before

abbrev visits : tie.After-all_held-held → ℕ
visits c = (sized c).visits_in-visits.result

-- ---- what is known there

-- the desk in the string, and the same of what was read
abbrev given : tie.Start → Desk
given s = desk_in (words_of s.args.desk.now)

abbrev desk : tie.After-all_held-held → Desk
desk c =
    let x = c in
    let b = sized c in
    let d = given (start b) in
    with_read d b.bytes_in.result d.plan.figures.rate b.streams_in-streams.result b.buffer_in.result
    x.overheads-table.result d.kinds x.all_next-next.result c.all_held-held.result d.places

desk-is : (c : tie.After-all_held-held) → desk c ≡ given (start (sized c))
desk-is c =
    let x = c in
    let b = sized c in
    read_same (given (start b)) b.bytes_in.ensures refl b.streams_in-streams.ensures b.buffer_in.ensures
    x.overheads-table.ensures refl x.all_next-next.ensures c.all_held-held.ensures refl

abbrev Told : Desk → tie.Start → Type 0
Told d s = let a = s.args in Begins d a.listed a.positions.now a.leads.now a.sum

told : (c : tie.After-all_held-held) → Told (desk c) (start (sized c))
told c = let s = start (sized c) in subst (λ (d : Desk). Told d s) (sym (desk-is c)) s.requires.1

-- the kinds and places that a begin leaves
all : (c : tie.After-serve-served) → Served (desk (read c)) c.serve-served.result.kinds c.serve-served.result.places
all c = subst (λ (d : Desk). Served d c.serve-served.result.kinds c.serve-served.result.places) (sym (desk-is (read c))) c.serve-served.ensures

-- the visits of a block, as they were read
seen : (c : tie.After-all_held-held) → visits c ≡ visits_in (desk c).plan
seen c = (sized c).visits_in-visits.ensures

visited : (c : tie.After-all_held-held) → Visits (visits c) (desk c).plan.streams
visited c = subst (λ (v : ℕ). Visits v (desk c).plan.streams) (sym (seen c)) (visits_are (desk c) (told c).ready)

-- what was gathered
abbrev value : tie.After-gather → Gathered
value c = gathered c.gather.new.found c.gather.new.spots c.gather.new.others

-- for the slots that read, of a desk d
abbrev Collects : Desk → ℕ → tie.After-gather → Type 0
Collects d v c =
    let g = served (gathering c) in
    let k = read g in
    Collected d (start (sized k)).args.positions.now v g.serve-served.result.kinds (desk k).plan.streams (value c)

collected : (c : tie.After-gather) → (let k = read (served (gathering c)) in Collects (desk k) (visits_in (desk k).plan) c)
collected c =
    let k = read (served (gathering c)) in
    subst (λ (v : ℕ). Collects (desk k) v c) (seen k) (subst (λ (d : Desk). Collects d (visits k) c) (sym (desk-is k)) c.gather.ensures)

-- it is what the plan says
gathered-is : (c : tie.After-gather) → (let g = served (gathering c) in
    let d = desk (read g) in
    Gathers (supply_of d.plan) (visits_in d.plan) g.serve-served.result.kinds d.next (value c))
gathered-is c =
    let g = served (gathering c) in
    let k = read g in
    let b = told k in
    gathers (desk k) b.wide b.ready _ _ b.plan _ (reading_begun (desk k) b.wide b.ready _ _ (all g)) (value c) (collected c)

ranged : (c : tie.After-gather) → InRange (value c)
ranged c =
    let g = served (gathering c) in
    let k = read g in
    let b = told k in
    in_range (desk k) b.wide b.ready _ _ b.plan _ (reading_begun (desk k) b.wide b.ready _ _ (all g)) (value c) (collected c)

-- ---- the needs

sub-room : tie.Need-overflow_sub-room
sub-room c = let s = start c in
    omega (arith, buffer_has (given s).plan s.requires.1.ready.planned, c.buffer_in.ensures, c.bytes_in.ensures)

serve-requires : tie.Need-serve-served-requires
serve-requires c κs =
    let h = c in
    let s = start (sized c.before) in
    let b = s.requires.1 in (
      s.requires.0,
      record {
        held = h.all_held-held.ensures;
        wide = b.wide;
        ready = b.ready;
        source = plan_source _ _ _ _ b.slim b.plan;
        leads = b.leads;
      },
    )

-- what is asked for the gathering, of a desk d
abbrev Reachable : Desk → ℕ → tie.After-serve-served → Type 0
Reachable d v c = Reached d (start (sized (read c))).args.positions.now v c.serve-served.result.kinds (desk (read c)).plan.streams

gather-requires : tie.Need-gather-requires
gather-requires c κs =
    let z = c in
    let g = served c.before.before.before.before in
    let k = read g in
    let s = start (sized k) in
    let d = desk k in
    let b = told k in
    let r = reached d b.wide b.ready _ _ b.plan g.serve-served.result.kinds (reading_begun d b.wide b.ready _ _ (all g)) in (
      s.requires.0,
      streams_are d b.ready,
      subst (λ (e : Desk). Reachable e (visits k) g) (desk-is k) (subst (λ (v : ℕ). Reachable d v g) (sym (seen k)) r),
      z.zeros-times.ensures,
      z.zeros-spots.ensures,
      z.zeros-others.ensures,
    )

sweep-bound-requires : tie.Need-sweep_bound-bound-requires
sweep-bound-requires c κs = let g = c in
    let k = read (served (gathering c.before.before.before.before)) in
    (visited k, (ranged c.before.before.before.before).times, λ i h. (table_range _ (told k).ready.legal i h).1)

list-fetches-requires : tie.Need-list_fetches-fetches-requires
list-fetches-requires c κs = let g = bounding c.before.before.before.before.before in
    (visited (read (served (gathering g))), (ranged g).positions, (ranged g).others)

returns : tie.Need-returns
returns c =
    let l = c in
    let f = listing c.before in
    let h = bounding f in
    let g = served (gathering h) in
    let k = read g in
    let d = desk k in
    let b = told k in
    let v = value h in
    (λ t. record {
      verdict = c.verdict.ensures t;
      kinds = g.serve-served.result.kinds;
      places = g.serve-served.result.places;
      bound = f.sweep_bound-bound.result;
      fetches = l.list_fetches-fetches.result;
    })
    ∙ begun_is d b.wide b.ready _ _ (all g) f.sweep_bound-bound.result l.list_fetches-fetches.result
    (f.sweep_bound-bound.ensures (supply_of d.plan) d.next (timed_begun d b.wide b.ready _ _ (all g) v (gathered-is h) (visits k) (seen k)))
    (l.list_fetches-fetches.ensures (supply_of d.plan) (positioned_begun d b.wide b.ready _ _ (all g) v (gathered-is h) (visits k) (seen k)))
    ∙ ap (λ (e : Desk). swept_of (begun_desk e)) (desk-is k)

pub begin_sweep_spec : {M : Type 1} → statement M
begin_sweep_spec =
    tie.close
    (tie.spec
    (λ c κs. search rules)
    (λ c κs. search rules)
    (λ c. search rules)
    (λ c κs. search rules)
    (λ c κs. search rules)
    sub-room
    (λ c κs. search rules)
    (λ c κs. search rules)
    (λ c κs. search rules)
    serve-requires
    (λ c κs. search rules)
    (λ c κs. search rules)
    (λ c κs. search rules)
    gather-requires
    sweep-bound-requires
    list-fetches-requires
    (λ c κs. search rules)
    returns)
