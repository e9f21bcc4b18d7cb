-- Laws of what specs/GreatestLaws defines.
use Prim.Native.Nat.{ℕ, ◌+◌, ◌*◌, ◌≤◌, ◌<◌}
use Rattle.std.proofs.Math.Path.{◌≡◌, refl, sym, ap, subst}
use Rattle.std.proofs.Common.{◌∙◌, le_refl}
use Rattle.std.specs.Prelude.{Bool, cond, ◌||◌, get_or}
use Rattle.std.proofs.Math.Bool.{true, false}
use native.Mathlib.Omega.{arith}
use Rattle.std.proofs.Math.Dec.{ltb, eqb}
use borrow.Author.Tests.{le-ltb, eqb-true}
use Rattle.laws.specs.Greatest.{greatest_of, greatest_of_above, earliest_is}
use Rattle.laws.specs.Through.{EarliestThrough, through_only, through_is}
use Rattle.numbers.specs.Limits.{name_step}
use Rattle.numbers.specs.Refusals.{too_short, no_stream}
use Rattle.card.specs.declared.Figures.{Figures}
use Rattle.card.specs.Card.{Legal, length_in, blocks_of}
use Rattle.placement.specs.Showing.{Showing, one, loop, pairs, visits_of, worst_at, some_pairs, worst_pair}
use Rattle.pacing.specs.Lead.{lead_above, lead_attained, lead_only}
use Rattle.pacing.specs.Streams.{cap_of, cap_some, cap_visits, overhead_entry, load, streams_le, streams_fits, streams_best, streams_only, streams_none}
use Rattle.pacing.specs.Shelves.{worst_shelf}
use Rattle.plan.specs.Plan.{time_on, position_in, time_in, first_in, others_in, entries_of, worst2_in, worst2_of, worst_film_of, worst_at_of, over_of, streams_of}
use Rattle.plan.specs.Plan.{film_at, lead_in}
use Rattle.plan.specs.Legal.{film_two, film_named, some_film, over_rises}
use Rattle.plan.proofs.Legal.{lead_own}
use Rattle.plan.specs.Answer.{plan_fault}
use Rattle.plan.specs.Greatest.{Starts, GreatestRun, TooMany, MostStreams, pair_in, pairs_in, EarliestPair}
use Rattle.plan.specs.GreatestLaws.{run_in, in_run}

module _ (x : Showing) (f : Figures) (ok : Legal (visits_of x) f) where
  -- ---- lead

  -- what has a lead has a name
  starts_named : (y : Showing) (i b : ℕ) → i < f.films → Starts y (length_in f i) b → b < name_step
  starts_named one i b u h = omega (arith, film_named f ok i u)
  starts_named loop i b u h = omega (arith, film_named f ok i u)
  starts_named pairs i b u h = omega (arith, film_named f ok i u)

  -- the lead is that number
  pub lead_greatest : (i b : ℕ) → i < f.films → Starts x (length_in f i) b → GreatestRun x f i b (lead_in x f i b)
  lead_greatest i b l h =
      let e = lead_own x f ok i b l (starts_named x i b l h) in
      let (j, u, r, d) = lead_attained (film_at x f i) (worst2_of x f) b in
      record {
        above = λ j u. let v = run_in x (length_in f i) (time_in x f i) (first_in x f i) (others_in x f i) j b h u in
            omega (arith, e, lead_above (film_at x f i) (worst2_of x f) j b v.0 v.1);
        reached = (j, in_run x (length_in f i) (time_in x f i) (first_in x f i) (others_in x f i) j b h u r, omega (arith, e, d));
      }

  -- and no other is
  pub greatest_lead : (i b m : ℕ) → i < f.films → Starts x (length_in f i) b → GreatestRun x f i b m → m ≡ lead_in x f i b
  greatest_lead i b m l h g =
      let (j, u, e) = g.reached in
      let v = run_in x (length_in f i) (time_in x f i) (first_in x f i) (others_in x f i) j b h u in
      lead_only (film_at x f i) (worst2_of x f) m b
      (λ k u r. g.above k (in_run x (length_in f i) (time_in x f i) (first_in x f i) (others_in x f i) k b h u r)) j v.0 v.1 e
      ∙ sym (lead_own x f ok i b l (starts_named x i b l h))

module _ (x : Showing) (f : Figures) where
  -- ---- streams

  -- the load of n streams, in the table's words
  load_entry : (n : ℕ) → n ≤ cap_of x → load f.rate (worst2_of x f) (over_of x f) n ≡ f.rate * (n * worst2_of x f + 2 * get_or f.table (visits_of x * n) 0)
  unfolding load
  load_entry n u = ap (λ (o : ℕ). f.rate * (n * worst2_of x f + 2 * o)) (overhead_entry f.table (visits_of x * n) (cap_visits x n u).0)

  too_many : (n : ℕ) → streams_of x f < n → n ≤ cap_of x → TooMany x f n
  unfolding streams_of
  too_many n m u =
      omega (arith, load_entry n u, streams_best (cap_of x) f.rate (worst2_of x f) (over_of x f) f.bytes (worst2_of x f) n (le_refl (worst2_of x f)) m u)

  -- the plan's streams are that number
  pub streams_most : 0 < streams_of x f → MostStreams x f (streams_of x f)
  unfolding streams_of
  streams_most h =
      let few = streams_le (cap_of x) f.rate (worst2_of x f) (over_of x f) f.bytes in
      record {
        range = (h, few);
        feeds = omega (arith, load_entry (streams_of x f) few, streams_fits (cap_of x) f.rate (worst2_of x f) (over_of x f) f.bytes h);
        most = too_many;
      }

  -- and no other is
  pub most_streams : (n : ℕ) → MostStreams x f n → n ≡ streams_of x f
  unfolding streams_of
  most_streams n m =
      streams_only (cap_of x) f.rate (worst2_of x f) (over_of x f) f.bytes n m.range.0 m.range.1
      (omega (arith, load_entry n m.range.1, m.feeds)) (λ k l u. omega (arith, load_entry k u, m.most k l u))

  -- ---- 12: np and nl are the entries of the lent lists

  -- only where no number fits
  pub none_fits : (np nl : ℕ) → plan_fault x f np nl ≡ no_stream → (n : ℕ) → 1 ≤ n → n ≤ cap_of x → TooMany x f n
  unfolding plan_fault
  none_fits np nl e n l u = too_many n (go (ltb np (entries_of x f) || ltb nl (blocks_of f)) (eqb (streams_of x f) 0) refl e) u
    where
      go : (s t : Bool) → eqb (streams_of x f) 0 ≡ t → ◌≡◌ {A = ℕ} (cond s too_short (cond t no_stream 0)) no_stream → streams_of x f < n
      go true t q e = absurd (omega arith)
      go false true q e = omega (arith, eqb-true (streams_of x f) 0 q)
      go false false q e = absurd (omega arith)

  -- and always where not even one does
  pub one_fails : Legal (visits_of x) f → (np nl : ℕ) → entries_of x f ≤ np → blocks_of f ≤ nl → TooMany x f 1 → plan_fault x f np nl ≡ no_stream
  unfolding plan_fault streams_of
  one_fails ok np nl p l h =
      let none = streams_none (cap_of x) f.rate (worst2_of x f) (over_of x f) f.bytes (over_rises x f ok)
      (omega (arith, load_entry 1 (cap_some x))) in
      rw (le-ltb np (entries_of x f) p, le-ltb nl (blocks_of f) l, none)

-- ---- the worst pair

module _ (x : Showing) (f : Figures) (ok : Legal (visits_of x) f) where
  -- a film's own worst time is the most that a pair of it takes
  own_is : (i : ℕ) → worst2_in x f i ≡ greatest_of (pair_in x f i) (pairs_in x f i)
  own_is i = worst_pair x (time_on f) (position_in x f i) (length_in f i)

  pairs_some : (i : ℕ) → i < f.films → (0 < pairs_in x f i) × (pairs_in x f i ≤ length_in f i)
  pairs_some i u = some_pairs x (length_in f i) (film_two f ok i u)

  -- the block that the plan names takes the most of all, and is the earliest
  pair_through : EarliestThrough (pair_in x f) (pairs_in x f) (length_in f) f.films (worst2_of x f) (worst_at_of x f)
  unfolding worst2_of worst_shelf worst_film_of worst_at_of worst_at
  pair_through =
      let e = earliest_is (worst2_in x f) f.films (some_film f ok) in
      let i = worst_film_of x f in
      let same = sym (own_is i) ∙ e.reached in
      subst (λ (w : ℕ). EarliestThrough (pair_in x f) (pairs_in x f) (length_in f) f.films w (worst_at_of x f)) same
      (through_is (pair_in x f) (pairs_in x f) (length_in f) f.films (λ j u. (pairs_some j u).1) i e.below (pairs_some i e.below).0
      (λ j u. omega (arith, own_is j, own_is i, e.reached, greatest_of_above (worst2_in x f) f.films j u))
      (λ j u s. omega (arith, own_is j, own_is i, e.reached, e.first j u)))

  -- the block that the plan names is that one
  pub pair_earliest : EarliestPair x f (worst_at_of x f)
  pair_earliest = record { pair = pair_through.here; first = pair_through.first }

  -- and no other is
  pub earliest_pair : (b : ℕ) → EarliestPair x f b → b ≡ worst_at_of x f
  earliest_pair b p =
      let here : EarliestThrough (pair_in x f) (pairs_in x f) (length_in f) f.films (worst2_of x f) b =
      record { here = p.pair; above = pair_through.above; first = p.first } in
      (through_only (pair_in x f) (pairs_in x f) (length_in f) f.films _ _ b _ here pair_through).1
