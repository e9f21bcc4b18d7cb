-- Laws of what specs/Times defines.
use Rattle.std.specs.Prelude.{ℕ, ◌*◌, ◌-◌, ◌≤◌, ◌<◌, ◌≡◌, List, [], map, length, get_or}
use Rattle.std.proofs.Common.{sym, ap, ◌∙◌, subst, arith, ext_get_or}
use Rattle.std.proofs.lemmas.List.{length-map}
use Rattle.laws.specs.Members.{In, in_map, of_map, map_at}
use Rattle.card.specs.declared.Figures.{Figures}
use Rattle.card.specs.Card.{Legal, total_positions, length_in}
use Rattle.placement.specs.Placement.{Laying}
use Rattle.placement.specs.Showing.{Showing, one, visits_of, laying_high}
use Rattle.plan.specs.Plan.{time_on, free_in, position_in, worst2_in, worst2_of}
use Rattle.plan.proofs.Legal.{room_in_law, legal_laying}
use Rattle.plan.proofs.Promise.{best_time}
use Rattle.layings.specs.Layings.{arrangements, film_positions, layings, OnFilm, listed, laid, worst_in, worst_times, smallest, times_tried, least_of}
use Rattle.layings.specs.Arranged.{positions_length}
use Rattle.layings.proofs.Arranged.{laying_listed, listed_laying}
use Rattle.layings.specs.Numbered.{factorial, numbered, arrangements_length, numbered_map, numbered_length}
use Rattle.layings.proofs.Numbered.{arrangement_at}
use Rattle.layings.specs.Times.{worst_same, first_free, single_blocks, single_worst, listed_at, smallest_of, orders_tried}

-- of a shelf of one film
pub least_is_planned : (x : Showing) → visits_of x ≡ 1 → (f : Figures) → Legal 1 f → f.films ≡ 1 → least_of x f ≡ worst2_of x f
unfolding least_of times_tried worst_times
least_is_planned x v f ok alone =
    smallest_of (map (worst_in x (time_on f) N) (layings P N)) (worst2_in x f 0) has low ∙ sym (single_worst x f alone)
  where
    P : ℕ
    P = total_positions f

    N : ℕ
    N = length_in f 0

    few : visits_of x * N ≡ N
    few = rw v (omega arith)

    room : N ≤ P
    room = omega (arith, ok.room, single_blocks f alone)

    legal : Legal (visits_of x) f
    legal = subst (λ (k : ℕ). Legal k f) (sym v) ok

    first : 0 < f.films
    first = omega arith

    own : worst2_in x f 0 ≡ worst_in x (time_on f) N (listed (position_in x f 0) N)
    own = worst_same x v (time_on f) (time_on f) (position_in x f 0) (laid (listed (position_in x f 0) N)) N
        (λ b h. ap (time_on f) (sym (listed_at (position_in x f 0) N b h)))

    on_film : OnFilm P N (position_in x f 0)
    on_film = record {
      laying =
          subst (λ (n : ℕ). Laying P n (position_in x f 0)) few
          (subst (λ (p : ℕ). Laying p (visits_of x * N) (position_in x f 0)) (first_free x f) (legal_laying x f legal 0 first));
      high = λ b u. omega (arith, few, first_free x f, laying_high x (free_in x f 0) N b (room_in_law x f legal 0 first) (omega (arith, few)));
    }

    has : In (worst2_in x f 0) (map (worst_in x (time_on f) N) (layings P N))
    has = rw own
        (in_map (worst_in x (time_on f) N) (listed (position_in x f 0) N) (layings P N) (laying_listed P N room (position_in x f 0) on_film))

    low : (w : ℕ) → In w (map (worst_in x (time_on f) N) (layings P N)) → worst2_in x f 0 ≤ w
    low w h =
        let (ys, p, e) = of_map (worst_in x (time_on f) N) w (layings P N) h in
        let lay : Laying P N (laid ys) = (listed_laying P N room ys p).1.laying in
        let free : Laying (free_in x f 0) N (laid ys) = subst (λ (p : ℕ). Laying p N (laid ys)) (sym (first_free x f)) lay in
        rw e (best_time x f legal 0 first (laid ys) (subst (λ (n : ℕ). Laying (free_in x f 0) n (laid ys)) (sym few) free))

pub orders_length : (x : Showing) (N : ℕ) (ts : List ℕ) → length (orders_tried x N ts) ≡ factorial N
unfolding orders_tried
orders_length x N ts = length-map (arrangements N ts) (worst_in x (λ t. t) N) ∙ arrangements_length N ts

pub orders_at : (x : Showing) (N r : ℕ) (ts : List ℕ) → r < factorial N → get_or (orders_tried x N ts) r 0 ≡ worst_in x (λ t. t) N (numbered N r ts)
unfolding orders_tried
orders_at x N r ts h =
    map_at (worst_in x (λ t. t) N) (arrangements N ts) r [] 0 (omega (arith, arrangements_length N ts))
    ∙ ap (worst_in x (λ t. t) N) (arrangement_at N r ts h)

-- they are those of the layings
pub orders_are : (x : Showing) → visits_of x ≡ 1 → (τ : ℕ → ℕ) (P N : ℕ) → orders_tried x N (map τ (film_positions P N)) ≡ worst_times x τ P N
unfolding worst_times layings
orders_are x v τ P N =
    ext_get_or 0 _ _ (orders_length x N (map τ (film_positions P N)) ∙ sym (tried ∙ arrangements_length N (film_positions P N)))
    (λ r h. each r (omega (arith, orders_length x N (map τ (film_positions P N)))))
  where
    tried : length (map (worst_in x τ N) (arrangements N (film_positions P N))) ≡ length (arrangements N (film_positions P N))
    tried = length-map (arrangements N (film_positions P N)) (worst_in x τ N)

    each : (r : ℕ) → r < factorial N
        → get_or (orders_tried x N (map τ (film_positions P N))) r 0 ≡ get_or (map (worst_in x τ N) (arrangements N (film_positions P N))) r 0
    each r h =
        let ys = numbered N r (film_positions P N) in
        orders_at x N r (map τ (film_positions P N)) h
        ∙ ap (worst_in x (λ t. t) N) (numbered_map τ N r (film_positions P N) (omega (arith, positions_length P N)) h)
        ∙ sym (worst_same x v τ (λ t. t) (laid ys) (laid (map τ ys)) N
        (λ b u. sym (map_at τ ys b 0 0 (omega (arith, numbered_length N r (film_positions P N))))))
        ∙ sym (map_at (worst_in x τ N) (arrangements N (film_positions P N)) r [] 0 (omega (arith, arrangements_length N (film_positions P N)))
        ∙ ap (worst_in x τ N) (arrangement_at N r (film_positions P N) h))
