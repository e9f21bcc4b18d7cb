use Prim.Native.Nat.{ℕ, ◌-◌, ◌*◌, ◌/◌, ◌≤◌}
use mathlib.Core.Path.{◌≡◌, refl, ap, ap₂, ◌∙◌}
use native.Mathlib.Omega.{arith}
use native.Mathlib.Nat.{mul-le-mul_right}
use Rattle.numbers.specs.Limits.{max_time, max_streams}
use Rattle.card.specs.declared.Figures.{Figures}
use Rattle.card.specs.Card.{Legal, total_positions}
use Rattle.card.specs.CardLaws.{table_range}
use Rattle.pacing.specs.Streams.{overhead, streams, cap_is, cap_visits, buffer_of}
use Rattle.placement.specs.Showing.{Showing, visits_of, visits_few}
use Rattle.card.specs.Read.{figures_from}
use Rattle.plan.specs.Plan.{showing_of, time_on, entries_of, worst2_of, worst_at_of, margin_of, streams_of, buffer_size, plan_of}
use Rattle.plan.specs.Legal.{total_is, total_zones, legal_zoned, entries_few, entries_some, time_small, streams_few}
use Rattle.plan.proofs.Legal.{worst2_small, margin_is, buffer_small}
use Rattle.plan.specs.Ways.{on_shelf}
use Rattle.plan.proofs.Ways.{shelf_worst}
use borrow.Author.Rules.{rules}
use Rattle.plan_numbers.proofs.plan_numbers.Statement.{statement}
use Rattle.plan_numbers.proofs.plan_numbers.Tie as tie

-- ---- what the calls find, v being the visits of a block, t the positions and e the entries of all films

module _ (x : Showing) (f : Figures) (ok : Legal (visits_of x) f) where
  streams-is : (v : ℕ) → v ≡ visits_of x → (w : ℕ) → w ≡ worst2_of x f
      → streams (max_streams / v) f.rate w (λ k. overhead f.table (v * k)) f.bytes ≡ streams_of x f
  unfolding streams_of
  streams-is v q w d =
      ap₂ (λ (w u : ℕ). streams (max_streams / u) f.rate w (λ k. overhead f.table (u * k)) f.bytes) d q
      ∙ ap (λ (cap : ℕ). streams cap f.rate (worst2_of x f) (λ k. overhead f.table (visits_of x * k)) f.bytes) (cap_is x)

  -- the lowest position in use
  time-is : (t e s : ℕ) → t ≡ total_positions f → e ≡ entries_of x f → s ≡ time_on f (t - e) → (s ≤ max_time) × (2 * s - worst2_of x f ≡ margin_of x f)
  time-is t e s d q h =
      let p : s ≡ time_on f (total_positions f - entries_of x f) = h ∙ ap₂ (λ (n u : ℕ). time_on f (n - u)) d q in (
        omega (arith, p, time_small f ok (total_positions f - entries_of x f) (omega (arith, ok.room, entries_some x f ok))),
        omega (arith, p, margin_is x f ok),
      )

  -- worst2 is at most that of two blocks with two visits
  worst2-least : worst2_of x f ≤ 4 * max_time
  worst2-least = omega (arith, worst2_small x f ok, mul-le-mul_right (2 * max_time) (visits_few x).1)

buffer-are : (x : Showing) (f : Figures) → buffer_of f.rate (streams_of x f) (margin_of x f) f.bytes ≡ buffer_size x f
unfolding buffer_size
buffer-are x f = refl

-- ---- the places, each from a later one

-- the figures that are lent
abbrev given : tie.Start → Figures
given c = let a = c.args in figures_from a.figures a.sizes.now a.times.now a.table.now

abbrev shown : tie.Start → Showing
shown c = showing_of c.args.showing

total : (c : tie.After-sum_positions-total) → c.sum_positions-total.result ≡ total_positions (given c.before.before)
total c = c.sum_positions-total.ensures ∙ total_zones (given c.before.before) c.requires

abbrev told : (c : tie.After-blocks_before) → tie.After-visits_of-visits
told c = c.before.before.before.before

abbrev summed : (c : tie.After-blocks_before) → tie.After-sum_positions-total
summed c = (told c).before

abbrev start : (c : tie.After-blocks_before) → tie.Start
start c = (summed c).before.before

-- the entries of all films
all-is : (c : tie.After-blocks_before) → (told c).visits_of-visits.result * c.blocks_before.result ≡ entries_of (shown (start c)) (given (start c))
all-is c = ap₂ ◌*◌ (told c).visits_of-visits.ensures c.blocks_before.ensures

-- worst2 and where it is, and the margin
record Measured (x : Showing) (f : Figures) (v w b s : ℕ) : Type 0 where
  visits : v ≡ visits_of x
  pair : w ≡ worst2_of x f
  first : b ≡ worst_at_of x f
  time : s ≤ max_time
  margin : 2 * s - w ≡ margin_of x f

measured : (c : tie.After-time_at-slowest)
    → (let b = c.before in let w = b.worst_of_films-worst.result in
    Measured (shown (start b)) (given (start b)) (told b).visits_of-visits.result w.time w.first c.time_at-slowest.result)
measured c =
    let b = c in
    let x = shown (start c.before) in
    let f = given (start c.before) in
    let ok = (start c.before).requires in
    let w = b.worst_of_films-worst in
    let pair = shelf_worst x f ok _ (total (summed c.before)) w.result.time w.result.first w.ensures in
    let s = time-is x f ok _ _ c.time_at-slowest.result (total (summed c.before)) (all-is c.before) c.time_at-slowest.ensures in
    record { visits = (told c.before).visits_of-visits.ensures; pair = pair.0; first = pair.1; time = s.0; margin = omega (arith, pair.0, s.1) }

sum-positions-requires : tie.Need-sum_positions-total-requires
sum-positions-requires c κs = let s = c in (legal_zoned (given c.before) s.requires, s.requires.zones.1)

worst-of-films-requires : tie.Need-worst_of_films-worst-requires
worst-of-films-requires c κs = let t = c in let s = c in on_shelf (shown c.before.before.before.before) (given c.before.before.before.before) s.requires _ (total c.before.before)

blocks-before-requires : tie.Need-blocks_before-requires
blocks-before-requires c κs = let s = c in (s.requires.films.1, omega (arith, s.requires.all))

mul-all : tie.Need-overflow_mul-all
mul-all c = let s = start c in omega (arith, all-is c, entries_few (shown s) (given s) s.requires)

sub-time-at : tie.Need-overflow_sub-total
sub-time-at c = let s = start c in omega (arith, all-is c, total (summed c), s.requires.room)

time-at-requires : tie.Need-time_at-slowest-requires
time-at-requires c κs =
    let s = start c in
    let f = given s in
    let e = entries_some (shown s) f s.requires in
    (legal_zoned f s.requires, omega (arith, total_is f s.requires, all-is c, total (summed c), s.requires.room))

lead-requires : tie.Need-lead-margin-requires
lead-requires c κs = omega (arith, (measured c).time)

count-streams-requires : tie.Need-count_streams-streams-requires
count-streams-requires c κs =
    let t = c in
    let s = start c.before.before in
    let m = measured c.before in (
      record { pair = omega (arith, m.pair, m.visits, worst2_small (shown s) (given s) s.requires); moves = λ k h. (table_range (given s) s.requires k h).1 },
      s.requires.rate.0,
      omega (arith, m.visits, (visits_few (shown s)).0),
    )

abbrev timed : tie.After-count_streams-streams → tie.After-time_at-slowest
timed c = c.before.before

abbrev begun : tie.After-count_streams-streams → tie.Start
begun c = start (timed c).before

-- the streams, as they are counted
counted : (c : tie.After-count_streams-streams) → c.count_streams-streams.result ≡ streams_of (shown (begun c)) (given (begun c))
counted c =
    let s = begun c in
    let m = measured (timed c) in
    c.count_streams-streams.ensures ∙ streams-is (shown s) (given s) s.requires _ m.visits _ m.pair

buffer-size-requires : tie.Need-buffer_size-buffer-requires
buffer-size-requires c κs =
    let s = begun c in
    let x = shown s in
    let f = given s in
    let m = measured (timed c) in
    let n = counted c in
    let g = c.lead-margin.ensures ∙ m.margin in (
      omega (arith, n, (cap_visits x (streams_of x f) (streams_few x f s.requires)).1),
      omega (arith, c.lead-margin.ensures, m.time),
      omega (arith, ap₂ (λ (n m : ℕ). buffer_of f.rate n m f.bytes) n g, buffer-are x f, buffer_small x f s.requires, s.requires.bytes.1),
    )

returns : tie.Need-returns
unfolding plan_of
returns c =
    let n = c in
    let f = given (begun c.before.before) in
    let x = shown (begun c.before.before) in
    let m = measured (timed c.before.before) in
    let g = n.lead-margin.ensures ∙ m.margin in
    let b = c.buffer_size-buffer.ensures ∙ ap₂ (λ (n m : ℕ). buffer_of f.rate n m f.bytes) (counted c.before.before) g ∙ buffer-are x f in
    λ i. record {
      figures = f;
      streams = counted c.before.before i;
      buffer = b i;
      worst2 = m.pair i;
      margin = g i;
      showing = c.known_word.ensures i;
      worstat = m.first i;
    }

pub plan_numbers_spec : {M : Type 1} → statement M
plan_numbers_spec =
    tie.close
    (tie.spec
    sum-positions-requires
    (λ c κs. search rules)
    worst-of-films-requires
    blocks-before-requires
    mul-all
    sub-time-at
    time-at-requires
    lead-requires
    count-streams-requires
    buffer-size-requires
    (λ c κs. search rules)
    returns)
