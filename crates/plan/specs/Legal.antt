-- What legal figures say of the disk and of the films: the zones as the code walks them, the times, and the quick forms of worst2, margin and leads.
-- Assumes nothing.
use Rattle.std.specs.Prelude.{ℕ, suc, ◌+◌, ◌*◌, ◌-◌, ◌≤◌, ◌<◌, ◌≡◌, true, take}
use Rattle.std.proofs.Math.Path.{refl}
use Rattle.std.proofs.Common.{sym, ◌∙◌, subst, mul-pos, mul-le-mul, mul-le-mul_left, lt-ltb}
use Rattle.std.proofs.Math.Logic.{by_cases}
use native.Mathlib.Omega.{arith}
use Rattle.std.proofs.Math.Decide.{dec_lt}
use Rattle.laws.specs.Starts.{start_next, start_rises}
use Rattle.numbers.specs.Limits.{max_time, max_blocks, name_step}
use Rattle.numbers.specs.Refusals.{no_such_film}
use Rattle.card.specs.declared.Figures.{Figures}
use Rattle.card.specs.Card.{Legal, total_positions, length_in, blocks_of}
use Rattle.card.specs.CardLaws.{table_rises}
use Rattle.placement.specs.Placement.{Falling}
use Rattle.placement.specs.Showing.{Showing, pairs, visits_of, visits_few}
use Rattle.placement.specs.Shelf.{falling_less}
use Rattle.placement.specs.Zones.{total, total_first, time_at_positive, time_at_within, descending_first, zones_falling}
use Rattle.pacing.specs.Streams.{cap_of, overhead_rises, streams_le}
use Rattle.pacing.specs.Shelf.{name_of, film_of_name, block_of_name}
use Rattle.pacing.specs.Shelves.{worst_above, shelf_lead, no_margin_shelf}
use Rattle.plan.specs.Disk.{Zoned, Disk}
use Rattle.plan.specs.Plan.{start_in, time_on, free_in, entries_of, time_in, worst2_in, worst2_of}
use Rattle.plan.specs.Plan.{over_of, streams_of, margin_of, film_of, lead_in}

module _ {k : ℕ} (f : Figures) (ok : Legal k f) where
  -- P is the total of all the entries, those past the last zone being zero
  pub total_is : total_positions f ≡ total f.positions
  unfolding total_positions total
  total_is = total_first f.positions f.zones (λ i h. (ok.unused i h).0)

  pub total_zones : total (take f.zones f.positions) ≡ total_positions f
  unfolding total_positions total
  total_zones = refl

  pub legal_zoned : Zoned f.positions
  legal_zoned = record {
    wide = ok.wide.0;
    small = omega (arith, total_is, ok.total);
  }

  pub legal_disk : Disk f.positions f.times
  legal_disk = record {
    zoned = legal_zoned;
    quick = λ i. by_cases (dec_lt i f.zones) (λ u. (ok.times i u).1) (λ u. omega (arith, (ok.unused i (omega arith)).1));
  }

  -- times never rise with the position
  pub legal_falling : Falling (total_positions f) (time_on f)
  legal_falling =
      subst (λ (n : ℕ). Falling n (time_on f)) (sym total_is)
      (zones_falling f.positions f.times (descending_first f.times f.zones ok.falling (λ i h. (ok.unused i h).1)))

  pub time_positive : (q : ℕ) → q < total_positions f → 0 < time_on f q
  time_positive q h = time_at_positive f.positions f.times f.zones q (λ i u. (ok.times i u).0) (omega (arith, total_zones))

  pub time_small : (q : ℕ) → q < total_positions f → time_on f q ≤ max_time
  time_small q h = time_at_within f.positions f.times f.zones q max_time (λ i u. (ok.times i u).1) (omega (arith, total_zones))

  -- ---- the films

  -- one at least
  pub some_film : 0 < f.films
  some_film = omega (arith, ok.films)

  -- of two blocks or more
  pub film_two : (i : ℕ) → i < f.films → 1 < length_in f i
  film_two i u = omega (arith, ok.blocks i u)

  -- and so few that each has a name
  pub film_named : (i : ℕ) → i < f.films → length_in f i < name_step
  film_named i u = omega (arith, ok.blocks i u)

  -- those before the end of film i, and all
  pub start_ends : (i : ℕ) → i < f.films → start_in f i + length_in f i ≤ blocks_of f
  start_ends i u = omega (arith, start_next (length_in f) i, start_rises (length_in f) (suc i) f.films u)

module _ (x : Showing) (f : Figures) (ok : Legal (visits_of x) f) where
  abbrev pub P : ℕ
  P = total_positions f

  abbrev pub N : ℕ → ℕ
  N = length_in f

  abbrev pub F : ℕ
  F = f.films

  -- and the entries of all are some, and few
  pub entries_some : 0 < entries_of x f
  entries_some = mul-pos (visits_few x).0 (omega (arith, film_two f ok 0 (some_film f ok), start_ends f ok 0 (some_film f ok)))

  pub entries_few : entries_of x f ≤ 2 * max_blocks
  entries_few = mul-le-mul (visits_few x).1 ok.all

  pub free_falling : (i : ℕ) → Falling (free_in x f i) (time_on f)
  free_falling i = falling_less P (free_in x f i) (time_on f) (omega arith) (legal_falling f ok)

  -- worst2 is at least each film's own
  pub worst2_above : (i : ℕ) → i < f.films → worst2_in x f i ≤ worst2_of x f
  unfolding worst2_of
  worst2_above i u = worst_above x (time_on f) P N F i u

  -- a block's name names it
  pub block_named : (i b : ℕ) → i < f.films → b < length_in f i → (film_of x f).is_block (name_of i b) ≡ true
  block_named i b u h = rw (film_of_name i b, block_of_name i b (omega (arith, film_named f ok i u)), lt-ltb i F u) (lt-ltb b (N i) h)

  -- a lead from the time of its block alone
  pub lead_is : (i b : ℕ) → i < f.films → b < length_in f i → lead_in x f i b ≡ 2 * time_in x f i b - worst2_of x f
  unfolding worst2_of
  lead_is i b u h =
      let n = block_of_name i b (omega (arith, film_named f ok i u)) in
      shelf_lead x (time_on f) P N F no_such_film (film_named f ok) (name_of i b) (block_named i b u h) ∙ rw (film_of_name i b, n)

  -- ---- streams and buffer

  -- the overhead never falls
  pub over_rises : (j k : ℕ) → j ≤ k → over_of x f j ≤ over_of x f k
  over_rises j k h = overhead_rises f.table (table_rises f ok) (visits_of x * j) (visits_of x * k) (mul-le-mul_left (visits_of x) h)

  pub streams_few : streams_of x f ≤ cap_of x
  unfolding streams_of
  streams_few = streams_le (cap_of x) f.rate (worst2_of x f) (over_of x f) f.bytes

-- half blocks have no margin (ticket 11)
pub halves_margin : (f : Figures) → margin_of pairs f ≡ 0
unfolding margin_of
halves_margin f = no_margin_shelf (time_on f) (total_positions f) (length_in f) f.films
