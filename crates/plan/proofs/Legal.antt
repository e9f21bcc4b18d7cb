-- Laws of what specs/Legal defines.
use Rattle.std.specs.Prelude.{ℕ, suc, ◌+◌, ◌*◌, ◌-◌, ◌≤◌, ◌<◌, ◌≡◌}
use Rattle.std.proofs.Math.Path.{refl}
use Rattle.std.proofs.Common.{ap, ◌∙◌, mul-le-mul_left}
use Rattle.std.proofs.Math.Logic.{by_cases}
use native.Mathlib.Omega.{arith}
use Rattle.std.proofs.Math.Decide.{dec_lt}
use Rattle.laws.specs.Greatest.{greatest_of_least, earliest_is}
use Rattle.numbers.specs.Limits.{max_time, name_step}
use Rattle.numbers.specs.Refusals.{no_such_film}
use Rattle.numbers.specs.Units.{parts}
use Rattle.card.specs.declared.Figures.{Figures}
use Rattle.card.specs.Card.{Legal, total_positions, length_in, blocks_of}
use Rattle.placement.specs.Placement.{Laying, Falling, zigzag}
use Rattle.placement.specs.Best.{zigzag_laying, zigzag_high}
use Rattle.placement.specs.Showing.{Showing, one, loop, pairs, visits_of, worst_at, pair_time, pairs_of, some_pairs}
use Rattle.placement.specs.Showing.{block_positive, block_within, laying, walked, laying_first, laying_high}
use Rattle.placement.proofs.Shelf.{film_room, film_lays, film_below, free_next}
use Rattle.pacing.specs.Film.{lead}
use Rattle.pacing.specs.Streams.{cap_of, load, buffer_of, streams_fits, buffer_bound}
use Rattle.pacing.specs.Laid.{slowest, time_within, slowest_pairs}
use Rattle.pacing.specs.Shown.{shown_end}
use Rattle.pacing.specs.Shelf.{film_lead}
use Rattle.pacing.specs.Shelves.{slowest_in, slowest_above, shelf_within, slowest_less, next_named, slowest_last}
use Rattle.plan.specs.Plan.{start_in, time_on, free_in, position_in, entries_of, first_in, others_in, time_in, worst2_in, worst2_of, worst_film_of, worst_at_of}
use Rattle.plan.specs.Plan.{over_of, streams_of, slowest_of, margin_of, film_at, lead_in, buffer_size}
use Rattle.plan.specs.Legal.{time_positive, time_small, some_film, film_two, start_ends, film_named, P as P_in_specs, N as N_in_specs, F as F_in_specs, legal_falling, worst2_above, halves_margin, lead_is}
use Rattle.pacing.specs.Shelves as S

module _ (x : Showing) (f : Figures) (ok : Legal (visits_of x) f) where
  abbrev P : ℕ
  P = P_in_specs x f ok

  abbrev N : ℕ → ℕ
  N = N_in_specs x f ok

  abbrev F : ℕ
  F = F_in_specs x f ok

  -- all have room
  pub shelf_room : visits_of x * start_in f f.films ≤ total_positions f
  shelf_room = ok.room

  -- each on the positions that are free for it
  pub room_in_law : (i : ℕ) → i < f.films → visits_of x * length_in f i ≤ free_in x f i
  room_in_law i u = film_room x P N F shelf_room i u

  pub legal_laying : (i : ℕ) → i < f.films → Laying (free_in x f i) (visits_of x * length_in f i) (position_in x f i)
  legal_laying i u = film_lays x P N F shelf_room i u

  pub position_below : (i v : ℕ) → i < f.films → v < visits_of x * length_in f i → position_in x f i v < total_positions f
  position_below i v u h = film_below x P N F shelf_room i v u h

  -- the lowest position in use is the first of the last film
  last_first : (i : ℕ) → suc i ≡ f.films → position_in x f i 0 ≡ total_positions f - entries_of x f
  last_first i e =
      laying_first x (free_in x f i) (N i)
      ∙ free_next x P N F shelf_room i (omega arith)
      ∙ ap (λ (j : ℕ). total_positions f - visits_of x * start_in f j) e

  -- the time of a block: that of a position for each visit at most
  pub block_time_law : (i b : ℕ) → i < f.films → b < length_in f i → (0 < time_in x f i b) × (time_in x f i b ≤ visits_of x * max_time)
  block_time_law i b u h = (
    block_positive x (time_on f) (position_in x f i) (N i) b h (λ v l. time_positive f ok (position_in x f i v) (position_below i v u l)),
    block_within x (time_on f) (position_in x f i) (N i) b max_time h (λ v l. time_small f ok (position_in x f i v) (position_below i v u l)),
  )

  slowest_small : slowest_of x f ≤ visits_of x * max_time
  unfolding slowest_of S.slowest_shelf slowest
  slowest_small = greatest_of_least (slowest_in x (time_on f) P N) F (visits_of x * max_time)
      (λ i u. greatest_of_least (time_in x f i) (N i) (visits_of x * max_time) (λ b h. (block_time_law i b u h).1))

  pub worst2_small : worst2_of x f ≤ 2 * (visits_of x * max_time)
  unfolding worst2_of slowest_of
  worst2_small = omega (arith, shelf_within x (time_on f) P N F, slowest_small)

  -- the film of the worst pair is one
  pub worst_film_small : worst_film_of x f < f.films
  unfolding worst_film_of
  worst_film_small = (earliest_is (worst2_in x f) F (some_film f ok)).below

  -- worstat is a block
  pub worst_at_small : worst_at_of x f < blocks_of f
  unfolding worst_at_of worst_at
  worst_at_small =
      let i = worst_film_of x f in
      let n = some_pairs x (N i) (film_two f ok i worst_film_small) in
      omega (
        arith,
        (earliest_is (pair_time x (time_on f) (position_in x f i) (N i)) (pairs_of x (N i)) n.0).below,
        n.1,
        start_ends f ok i worst_film_small,
      )

  -- every block takes less than worst2
  slow_less : slowest_of x f < worst2_of x f
  unfolding slowest_of worst2_of
  slow_less = slowest_less x (time_on f) P N F (some_film f ok) (film_two f ok) (λ i b u h. (block_time_law i b u h).0)

  pub margin_less : margin_of x f + 1 ≤ worst2_of x f
  unfolding margin_of slowest_of worst2_of
  margin_less = S.margin_less x (time_on f) P N F slow_less

  pub time_slowest : (i b : ℕ) → i < f.films → b < length_in f i → time_in x f i b ≤ slowest_of x f
  unfolding slowest_of
  time_slowest i b u h = omega (arith, time_within x (time_on f) (position_in x f i) (N i) b h, slowest_above x (time_on f) P N F i u)

  pub time_less : (i b : ℕ) → i < f.films → b < length_in f i → time_in x f i b < worst2_of x f
  time_less i b u h = omega (arith, time_slowest i b u h, slow_less)

  -- a lead is that of its film alone, with the common worst2
  pub lead_own : (i b : ℕ) → i < f.films → b < name_step → lead_in x f i b ≡ lead (film_at x f i) (worst2_of x f) b
  lead_own i b u h = film_lead F (film_at x f) no_such_film (next_named x (time_on f) P N F (film_named f ok)) i u (worst2_of x f) b h

  -- past the last block it is 0
  pub lead_last : (i : ℕ) → i < f.films → lead_in x f i (length_in f i) ≡ 0
  lead_last i u =
      lead_own i (N i) u (film_named f ok i u) ∙ shown_end (N i) (time_in x f i) (first_in x f i) (others_in x f i) x (worst2_of x f)

  -- the formula of streams
  pub streams_fit : 0 < streams_of x f → load f.rate (worst2_of x f) (over_of x f) (streams_of x f) ≤ parts * f.bytes
  unfolding streams_of
  streams_fit h = streams_fits (cap_of x) f.rate (worst2_of x f) (over_of x f) f.bytes h

  -- a buffer is at most four blocks
  pub buffer_small : buffer_size x f ≤ 4 * f.bytes
  unfolding buffer_size buffer_of
  buffer_small = by_cases (dec_lt 0 (streams_of x f))
      (λ h. buffer_bound f.rate (worst2_of x f) (over_of x f) f.bytes (streams_of x f) (margin_of x f) (omega (arith, margin_less)) (streams_fit h))
      (λ h. let e : streams_of x f ≡ 0 = omega arith in rw e (omega arith))

-- THE MARGIN FROM THE LOWEST POSITION IN USE
margin_single : (x : Showing) (f : Figures) → Legal (visits_of x) f → visits_of x ≡ 1
    → margin_of x f ≡ 2 * time_on f (total_positions f - entries_of x f) - worst2_of x f
unfolding margin_of S.margin_shelf worst2_of
margin_single x f ok e =
    ap (λ (s : ℕ). 2 * s - S.worst_shelf x (time_on f) (total_positions f) (length_in f) f.films)
    (slowest_last (time_on f) (total_positions f) (length_in f) f.films (legal_falling f ok) x e (shelf_room x f ok)
    (λ i u. omega (arith, film_two f ok i u)) (some_film f ok))

pub margin_is : (x : Showing) (f : Figures) → Legal (visits_of x) f → margin_of x f ≡ 2 * time_on f (total_positions f - entries_of x f) - worst2_of x f
margin_is one f ok = margin_single one f ok refl
margin_is loop f ok = margin_single loop f ok refl
margin_is pairs f ok =
    let i = f.films - 1 in
    let u : i < f.films = omega (arith, some_film f ok) in
    let l = position_in pairs f i in
    omega (
      arith,
      halves_margin f,
      worst2_above pairs f ok i u,
      slowest_pairs (time_on f) l (length_in f i),
      time_within pairs (time_on f) l (length_in f i) 0 (omega (arith, film_two f ok i u)),
      ap (time_on f) (last_first pairs f ok i (omega arith)),
    )

-- half blocks have no lead
pub halves_lead : (f : Figures) → Legal 2 f → (i b : ℕ) → i < f.films → b < length_in f i → lead_in pairs f i b ≡ 0
unfolding margin_of S.margin_shelf slowest_of worst2_of
halves_lead f ok i b u h = omega (arith, lead_is pairs f ok i b u h, time_slowest pairs f ok i b u h, halves_margin f)

-- each position of theirs takes at most half of worst2
pub half_small : (f : Figures) → Legal 2 f → (q : ℕ) → total_positions f - entries_of pairs f ≤ q → q < total_positions f → 2 * time_on f q ≤ worst2_of pairs f
unfolding Falling
half_small f ok q l u = omega (
  arith,
  legal_falling f ok (total_positions f - entries_of pairs f) q l u,
  halves_margin f,
  margin_is pairs f ok,
)

-- no position in use is lower than the lowest
pub position_high : (x : Showing) (f : Figures) → Legal (visits_of x) f → (i v : ℕ) → i < f.films → v < visits_of x * length_in f i
    → total_positions f - entries_of x f ≤ position_in x f i v
position_high x f ok i v u h =
    omega (
      arith,
      laying_high x (free_in x f i) (length_in f i) v (room_in_law x f ok i u) h,
      mul-le-mul_left (visits_of x) (start_ends f ok i u),
    )

-- A LEAD FROM THE TIME OF ONE POSITION: that of the block, of half blocks any of theirs
pub lead_first : (x : Showing) (f : Figures) → Legal (visits_of x) f → (i b : ℕ) → i < f.films → b < length_in f i
    → lead_in x f i b ≡ 2 * time_on f (first_in x f i b) - worst2_of x f
lead_first one f ok i b u h = let e : 1 * b ≡ b = omega arith in rw e (lead_is one f ok i b u h)
lead_first loop f ok i b u h = let e : 1 * b ≡ b = omega arith in rw e (lead_is loop f ok i b u h)
lead_first pairs f ok i b u h =
    let v : 2 * b < 2 * length_in f i = omega arith in
    omega (
      arith,
      halves_lead f ok i b u h,
      half_small f ok (first_in pairs f i b) (position_high pairs f ok i (2 * b) u v) (position_below pairs f ok i (2 * b) u v),
    )

-- that of a walk over N blocks of one visit
pub walked_lead : (x : Showing) (f : Figures) → Legal (visits_of x) f → (i b : ℕ) → i < f.films → b < length_in f i
    → lead_in x f i b ≡ 2 * time_on f (laying (walked x) (free_in x f i) (length_in f i) b) - worst2_of x f
walked_lead one f ok i b u h = lead_is one f ok i b u h
walked_lead loop f ok i b u h = lead_is loop f ok i b u h
walked_lead pairs f ok i b u h =
    let n = room_in_law pairs f ok i u in
    let room : length_in f i ≤ free_in pairs f i = omega arith in
    let e = start_ends f ok i u in
    omega (
      arith,
      halves_lead f ok i b u h,
      half_small f ok (zigzag (free_in pairs f i) (length_in f i) b) (omega (arith, zigzag_high (free_in pairs f i) (length_in f i) b room h))
          (omega (arith, (zigzag_laying (free_in pairs f i) (length_in f i) room).into b h)),
    )

pub lead_small : (x : Showing) (f : Figures) → Legal (visits_of x) f → (i b : ℕ) → i < f.films → b < length_in f i → lead_in x f i b ≤ max_time - 1
lead_small one f ok i b u h = omega (arith, lead_is one f ok i b u h, time_less one f ok i b u h, (block_time_law one f ok i b u h).1)
lead_small loop f ok i b u h = omega (arith, lead_is loop f ok i b u h, time_less loop f ok i b u h, (block_time_law loop f ok i b u h).1)
lead_small pairs f ok i b u h = omega (arith, halves_lead f ok i b u h)
