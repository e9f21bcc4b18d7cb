use Prim.Native.Nat.{ℕ, ◌≤◌}
use mathlib.Core.Bool.{Bool, true, false}
use mathlib.Core.List.{List}
use mathlib.Core.Path.{◌≡◌, refl, ap₂}
use native.Mathlib.Omega.{arith}
use borrow.Author.Rules.{rules}
use borrow.Author.Tests.{not-true}
use Rattle.laws.specs.Bools.{clash}
use Rattle.laws.specs.Starts.{start_of}
use Rattle.words.specs.Words.{words_of}
use Rattle.numbers.specs.Limits.{max_streams}
use Rattle.card.specs.Card.{Legal, blocks_of}
use Rattle.plan.proofs.Check.{checked_legal}
use Rattle.plan.specs.Disk.{length_at}
use Rattle.desk.specs.declared.Desk.{Desk}
use Rattle.desk.specs.Desk.{visits_in}
use Rattle.desk_layout.specs.Layout.{desk_in}
use Rattle.desk_layout.specs.Sized.{wide_in, slim_in}
use Rattle.desk_columns.specs.Films.{legal_small}
use Rattle.soundness.specs.Facts.{LeadSource, Summable}
use Rattle.soundness.specs.Tests.{tidy_found, tidy_sum}
use Rattle.soundness.specs.Ready.{plan_source, plan_streams}
use Rattle.soundness.proofs.leads.sum_next.Statement.{statement}
use Rattle.soundness.proofs.leads.sum_next.Tie as tie

abbrev start : tie.Joined-not-listed → tie.Start
start c = c.before.before.before.before

abbrev given : tie.Start → Desk
given c = desk_in (words_of c.args.desk.now)

few : (c : tie.Start) → (given c).plan.streams ≤ max_streams
few c = plan_streams _ _ _ (slim_in _ c.requires.0) c.requires.1.plan

source : (c : tie.Start) → LeadSource c.args.listed (given c).plan c.args.positions.now c.args.leads.now
source c = plan_source _ _ _ _ (slim_in _ c.requires.0) c.requires.1.plan

-- what stands in the lead list's place is asked nothing
unlisted : (t : Bool) → t ≡ false → (d : Desk) (n : ℕ) (sizes times ps ls ms : List ℕ) → Summable t d n sizes times ps ls → Summable false d n sizes times ps ms
unlisted true e d n sizes times ps ls ms h = clash refl e
unlisted false e d n sizes times ps ls ms h = record { streams = h.streams; zones = h.zones; plan = h.plan; tidy = h.tidy }

legal : (c : tie.Start) → Legal (visits_in (given c).plan) (given c).plan.figures
legal c = checked_legal _ _ _ (slim_in _ c.requires.0) c.requires.1.plan

-- where no list is lent
abbrev unlent : tie.Then-not-listed → tie.Start
unlent c = c.before.before.before.before

-- the films as they were read: so many, and all their blocks
films-are : (c : tie.After-films_in) → (let z = c in
    let f = (given (unlent c.before.before.before)).plan.figures in
    (c.films_in.result ≡ f.films) × (start_of (length_at z.all_lengths-lengths.result) c.films_in.result ≡ blocks_of f))
films-are c = let z = c in
    (c.films_in.ensures, ap₂ (λ (bs : List ℕ) (n : ℕ). start_of (length_at bs) n) z.all_lengths-lengths.ensures c.films_in.ensures)

blocks-before-requires : tie.Need-blocks_before-requires
blocks-before-requires c κs =
    let ok = legal (unlent c.before.before.before) in
    let e = films-are c in
    (omega (arith, e.0, ok.films.1), omega (arith, e.1, ok.all))

sum-short-requires : tie.Need-sum_short-requires
sum-short-requires c κs =
    let b = c in
    let f = c in
    let t = c in
    let s = unlent c.before.before.before.before.before in
    (s.requires.0, omega (arith, c.if-blocks_before-le-SHORT.true, b.blocks_before.ensures, (films-are c.before.before).1), unlisted _ (not-true _ t.if-not-listed.true-raw) _ _ _ _ _ _ _ s.requires.1)

returns : tie.Need-returns-then-blocks_before-le-SHORT
returns c = c.sum_short.ensures

sum-leads-requires : tie.Need-sum_leads-requires
sum-leads-requires c κs =
    let s = start c in
    let p = s.requires.1 in (
      omega (arith, few s, p.streams),
      s.requires.0,
      tidy_found (given s) (wide_in _ s.requires.0) p.tidy (few s) (legal_small _ (legal s)) (legal s).films.0 _ _ _
          (source s) _ _ p.zones _ p.streams,
    )

returns-2 : tie.Need-returns
returns-2 c =
    let s = start c.before in
    let p = s.requires.1 in
    tidy_sum (given s) (wide_in _ s.requires.0) p.tidy (few s) (legal_small _ (legal s)) (legal s).films.0 _ _ _
    (source s) _ _ p.zones _ p.streams _ c.sum_leads.ensures

pub sum_next_spec : {M : Type 1} → statement M
sum_next_spec =
    tie.close
    (tie.spec
    (λ c κs. search rules)
    (λ c κs. search rules)
    blocks-before-requires
    sum-short-requires
    returns
    sum-leads-requires
    returns-2)
