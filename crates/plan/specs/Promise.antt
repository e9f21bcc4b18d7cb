-- What the planner promises of the plan of legal figures: all that the desk relies on, and that no laying is better.
-- Assumes nothing.
use Rattle.std.specs.Prelude.{ℕ, ◌+◌, ◌*◌, ◌-◌, ◌≤◌, ◌<◌, ◌≡◌, refl}
use Rattle.std.proofs.Common.{arith}
use Rattle.laws.specs.Greatest.{greatest_of_reached}
use Rattle.numbers.specs.Limits.{max_time}
use Rattle.numbers.specs.Units.{parts, whole_bytes}
use Rattle.card.specs.declared.Figures.{Figures}
use Rattle.card.specs.Card.{Legal, length_in}
use Rattle.placement.specs.Placement.{Laying}
use Rattle.placement.specs.Showing.{Showing, one, loop, pairs, visits_of, after}
use Rattle.pacing.specs.Film.{Paced}
use Rattle.pacing.specs.Shown.{round_below}
use Rattle.pacing.specs.Streams.{cap_of, load, buffer_of}
use Rattle.pacing.specs.Shelves.{worst_shelf, margin_shelf}
use Rattle.plan.specs.Plan.{free_in, position_in, time_in, worst2_in, worst2_of, over_of, streams_of}
use Rattle.plan.specs.Plan.{slowest_of, margin_of, film_of, lead_in, buffer_size}
use Rattle.plan.specs.Legal.{some_film}

-- ---- leads

-- the lead laws of a shelf: it is paced by worst2, a lead pays for its block, none is above the margin, and that past a film's end is 0
pub record LeadLaws (x : Showing) (f : Figures) : Type 0 where
  pub paced : Paced (film_of x f) (worst2_of x f) (slowest_of x f)
  pub pays : (i b : ℕ) → i < f.films → b < length_in f i
      → 2 * time_in x f i b + lead_in x f i (after x (length_in f i) b) ≤ lead_in x f i b + worst2_of x f
  pub within : (i b : ℕ) → i < f.films → b < length_in f i → lead_in x f i b ≤ margin_of x f
  pub last : (i : ℕ) → i < f.films → lead_in x f i (length_in f i) ≡ 0

pub margin_of_law : (x : Showing) (f : Figures) → margin_of x f ≡ 2 * slowest_of x f - worst2_of x f
unfolding margin_of slowest_of worst2_of margin_shelf
margin_of_law x f = refl

-- the block after a film's last is none of it
pub after_last : (x : Showing) (N b : ℕ) → b < N → (after x N b < N → ⊥) → after x N b ≡ N
after_last one N b u h = omega arith
after_last loop N b u h = absurd (h (round_below N b u))
after_last pairs N b u h = omega arith

-- ---- the promise

-- all that the desk relies on
pub record Promise (x : Showing) (f : Figures) : Type 0 where
  pub leads : LeadLaws x f
  -- streams
  pub some : 0 < streams_of x f
  pub few : streams_of x f ≤ cap_of x
  pub fits : load f.rate (worst2_of x f) (over_of x f) (streams_of x f) ≤ parts * f.bytes
  pub rises : (j k : ℕ) → j ≤ k → over_of x f j ≤ over_of x f k
  -- the buffer
  pub buffer : buffer_size x f ≡ 3 * f.bytes + whole_bytes (f.rate * streams_of x f * margin_of x f)
  pub four : buffer_size x f ≤ 4 * f.bytes
  -- positions: of each film below what is free for it, and no two alike; each film above those after it
  pub laying : (i : ℕ) → i < f.films → Laying (free_in x f i) (visits_of x * length_in f i) (position_in x f i)
  pub above : (i j v w : ℕ) → i < j → j < f.films → v < visits_of x * length_in f i → w < visits_of x * length_in f j
      → position_in x f j w < position_in x f i v
  -- sizes
  pub worst2 : worst2_of x f ≤ 2 * (visits_of x * max_time)
  pub margin : margin_of x f + 1 ≤ worst2_of x f
  pub margin_is : margin_of x f ≡ 2 * slowest_of x f - worst2_of x f
  pub lead : (i b : ℕ) → i < f.films → b < length_in f i → lead_in x f i b ≤ max_time - 1
  pub time : (i b : ℕ) → i < f.films → b < length_in f i → (0 < time_in x f i b) × (time_in x f i b ≤ visits_of x * max_time)

pub buffer_formula : (x : Showing) (f : Figures) → buffer_size x f ≡ 3 * f.bytes + whole_bytes (f.rate * streams_of x f * margin_of x f)
unfolding buffer_size buffer_of
buffer_formula x f = refl

-- worst2 is a film's own
pub worst2_reached : (x : Showing) (f : Figures) → Legal (visits_of x) f → (i : ℕ) × (i < f.films) × (worst2_in x f i ≡ worst2_of x f)
unfolding worst2_of worst_shelf
worst2_reached x f ok = greatest_of_reached (worst2_in x f) f.films (some_film f ok)
