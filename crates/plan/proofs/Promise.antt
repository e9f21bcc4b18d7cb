-- Laws of what specs/Promise defines.
use Rattle.std.specs.Prelude.{ℕ, suc, ◌+◌, ◌*◌, ◌≤◌, ◌<◌, ◌≡◌, ◌≢◌}
use Rattle.std.proofs.Common.{ap, arith, mul-le-mul_left}
use Rattle.std.proofs.Math.Logic.{by_cases}
use Rattle.std.proofs.Math.Decide.{dec_lt}
use Rattle.laws.specs.Starts.{start_rises}
use Rattle.numbers.specs.Refusals.{no_such_film}
use Rattle.numbers.specs.Units.{parts}
use Rattle.card.specs.declared.Figures.{Figures}
use Rattle.card.specs.Card.{Legal, total_positions, length_in}
use Rattle.placement.specs.Placement.{Laying}
use Rattle.placement.specs.Showing.{Showing, visits_of, worst_of, laying_high, after}
use Rattle.placement.proofs.Shelf.{free_next, film_above, film_best}
use Rattle.pacing.specs.Film.{Paced}
use Rattle.pacing.specs.Streams.{cap_of, load}
use Rattle.pacing.specs.Laid.{pair_within}
use Rattle.pacing.specs.Shelves.{shelf_is_paced, no_film_feeds_more}
use Rattle.plan.specs.Plan.{start_in, time_on, free_in, position_in, time_in, worst2_in, worst2_of, over_of, streams_of}
use Rattle.plan.specs.Plan.{slowest_of, film_of, lead_in}
use Rattle.plan.specs.Legal.{legal_falling, film_two, film_named, worst2_above}
use Rattle.plan.proofs.Legal.{shelf_room, room_in_law, legal_laying, block_time_law, worst2_small}
use Rattle.plan.specs.Legal.{lead_is, over_rises, streams_few}
use Rattle.plan.proofs.Legal.{time_slowest, margin_less, lead_last, lead_small, streams_fit, buffer_small}
use Rattle.plan.specs.Promise.{after_last, LeadLaws, margin_of_law, Promise, buffer_formula}

module _ (x : Showing) (f : Figures) (ok : Legal (visits_of x) f) where
  pub film_paced : Paced (film_of x f) (worst2_of x f) (slowest_of x f)
  unfolding worst2_of slowest_of
  film_paced = shelf_is_paced x (time_on f) (total_positions f) (length_in f) f.films no_such_film (film_named f ok)

  lead_pays : (i b : ℕ) → i < f.films → b < length_in f i
      → 2 * time_in x f i b + lead_in x f i (after x (length_in f i) b) ≤ lead_in x f i b + worst2_of x f
  lead_pays i b u h =
      let N = length_in f i in
      by_cases (dec_lt (after x N b) N)
      (λ v. omega (
        arith,
        lead_is x f ok i b u h,
        lead_is x f ok i (after x N b) u v,
        pair_within (time_on f) (position_in x f i) N x b h v,
        worst2_above x f ok i u,
      ))
      (λ v. omega (arith, lead_is x f ok i b u h, ap (lead_in x f i) (after_last x N b h v), lead_last x f ok i u))

  pub lead_laws : LeadLaws x f
  lead_laws = record {
    paced = film_paced;
    pays = lead_pays;
    within = λ i b u h. omega (arith, lead_is x f ok i b u h, margin_of_law x f, time_slowest x f ok i b u h);
    last = lead_last x f ok;
  }

pub promise : (x : Showing) (f : Figures) → Legal (visits_of x) f → 0 < streams_of x f → Promise x f
promise x f ok some = record {
  leads = lead_laws x f ok;
  some = some;
  few = streams_few x f ok;
  fits = streams_fit x f ok some;
  rises = over_rises x f ok;
  buffer = buffer_formula x f;
  four = buffer_small x f ok;
  laying = legal_laying x f ok;
  above = film_above x (total_positions f) (length_in f) f.films (shelf_room x f ok);
  worst2 = worst2_small x f ok;
  margin = margin_less x f ok;
  margin_is = margin_of_law x f;
  lead = lead_small x f ok;
  time = block_time_law x f ok;
}

-- ---- the best placement

module _ (x : Showing) (f : Figures) (ok : Legal (visits_of x) f) (i : ℕ) (u : i < f.films) where
  module _ (l : ℕ → ℕ) (lay : Laying (free_in x f i) (visits_of x * length_in f i) l) where
    -- no laying of a film on the positions that were free has a smaller worst time of its own (P10, T7.4)
    pub best_time : worst2_in x f i ≤ worst_of x (time_on f) l (length_in f i)
    best_time = film_best x (total_positions f) (length_in f) f.films (shelf_room x f ok) i u (film_two f ok i u) (time_on f) (legal_falling f ok) l lay

    -- nor lets more streams fit, the other films' worst times being as they are
    pub best_streams : (w n : ℕ) → worst_of x (time_on f) l (length_in f i) ≤ w → ((j : ℕ) → j < f.films → j ≢ i → worst2_in x f j ≤ w)
        → streams_of x f < n → n ≤ cap_of x → parts * f.bytes < load f.rate w (over_of x f) n
    unfolding worst2_of streams_of
    best_streams w n h others m k =
        no_film_feeds_more x (time_on f) (total_positions f) (length_in f) f.films (shelf_room x f ok) (legal_falling f ok) i u (film_two f ok i u) l lay w h
        others (cap_of x) f.rate (over_of x f) f.bytes n m k

  -- what is free for a film is what the films before it leave
  pub free_is : free_in x f i + visits_of x * start_in f i ≡ total_positions f
  free_is = omega (arith, shelf_room x f ok, mul-le-mul_left (visits_of x) (start_rises (length_in f) i f.films (omega arith)))

  -- these lie above it
  pub before_above : (j v : ℕ) → j < i → v < visits_of x * length_in f j → free_in x f i ≤ position_in x f j v
  before_above j v l h =
      omega (
        arith,
        laying_high x (free_in x f j) (length_in f j) v (room_in_law x f ok j (omega arith)) h,
        free_next x (total_positions f) (length_in f) f.films (shelf_room x f ok) j (omega arith),
        mul-le-mul_left (visits_of x) (start_rises (length_in f) (suc j) i l),
      )
