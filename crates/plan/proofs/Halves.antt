-- Laws of what specs/Halves defines.
use Rattle.std.specs.Prelude.{ℕ, suc, ◌+◌, ◌*◌, ◌≤◌, ◌<◌, ◌≡◌, refl, get_or}
use Rattle.std.proofs.Math.Path.{sym, ap}
use Rattle.std.proofs.Common.{◌∙◌}
use native.Mathlib.Omega.{arith}
use Rattle.numbers.specs.Limits.{max_pair_streams}
use Rattle.numbers.specs.Units.{parts, micros}
use Rattle.card.specs.declared.Figures.{Figures}
use Rattle.card.specs.Card.{Legal, length_in}
use Rattle.placement.specs.Placement.{Laying, zigzag_even, zigzag_odd}
use Rattle.placement.specs.Showing.{pairs, laying_high, greatest_twice}
use Rattle.pacing.specs.Streams.{overhead_entry, load, buffer_of}
use Rattle.pacing.specs.Shelves.{worst_shelf}
use Rattle.plan.specs.Plan.{free_in, position_in, worst2_of, over_of, streams_of, buffer_size}
use Rattle.plan.specs.Legal.{halves_margin, streams_few}
use Rattle.plan.proofs.Legal.{room_in_law, legal_laying, halves_lead, streams_fit}
use Rattle.plan.proofs.GreatestLaws.{pair_earliest}
use Rattle.plan.proofs.Promise.{best_time, best_streams}
use Rattle.plan.specs.Halves.{plan_time_in as plan_time_in_in_specs, plan_time as plan_time_in_specs, halves_load as halves_load_in_specs, NoBetter as NoBetter_in_specs, HalvesPlan as HalvesPlan_in_specs}

module _ (f : Figures) where
  abbrev plan_time_in : ℕ → ℕ
  plan_time_in = plan_time_in_in_specs f

  abbrev plan_time : ℕ
  plan_time = plan_time_in_specs f

  abbrev halves_load : ℕ → ℕ → ℕ
  halves_load = halves_load_in_specs f

  abbrev NoBetter : (i : ℕ) (l : ℕ → ℕ) → Type 0
  NoBetter = NoBetter_in_specs f

  abbrev HalvesPlan : Type 0
  HalvesPlan = HalvesPlan_in_specs f

  -- both sides of the formula are twice those of document 01's
  halves_load_law : (p n : ℕ) → n ≤ max_pair_streams → load f.rate (2 * p) (over_of pairs f) n ≡ 2 * halves_load p n
  unfolding load
  halves_load_law p n u =
      ap (λ (o : ℕ). f.rate * (n * (2 * p) + 2 * o)) (overhead_entry f.table (2 * n) (omega arith))
      ∙ twice f.rate (get_or f.table (2 * n) 0)
    where
      twice : (c o : ℕ) → c * (n * (2 * p) + 2 * o) ≡ 2 * (c * (n * p + o))
      twice c o = omega arith

  worst_twice : worst2_of pairs f ≡ 2 * plan_time
  unfolding worst2_of worst_shelf
  worst_twice = sym (greatest_twice plan_time_in f.films)

  module _ (ok : Legal 2 f) where
    -- NO MATCHING IS BETTER
    pub no_matching_better : (i : ℕ) → i < f.films → (l : ℕ → ℕ) → Laying (free_in pairs f i) (2 * length_in f i) l → NoBetter i l
    no_matching_better i u l lay = record {
      time = omega (arith, best_time pairs f ok i u l lay);
      streams = λ p n h others m k.
          omega (arith, best_streams pairs f ok i u l lay (2 * p) n (omega arith) (λ j v d. omega (arith, others j v d)) m k, halves_load_law p n k);
    }

    lower : (i b : ℕ) → i < f.films → b < length_in f i → position_in pairs f i (2 * b) < position_in pairs f i (suc (2 * b))
    lower i b u h =
        let e : suc (2 * b) ≡ 2 * b + 1 = omega arith in
        rw (zigzag_even (free_in pairs f i) (2 * length_in f i) b, e, zigzag_odd (free_in pairs f i) (2 * length_in f i) b) (omega (arith, room_in_law pairs f ok i u))

    fed : 0 < streams_of pairs f → halves_load plan_time (streams_of pairs f) ≤ micros * f.bytes
    fed h =
        let fit : load f.rate (2 * plan_time) (over_of pairs f) (streams_of pairs f) ≤ parts * f.bytes = rw worst_twice at (streams_fit pairs f ok h) in
        omega (arith, fit, halves_load_law plan_time (streams_of pairs f) (streams_few pairs f ok))

    three : buffer_size pairs f ≡ 3 * f.bytes
    unfolding buffer_size buffer_of
    three = rw (halves_margin f) (omega arith)

    pub halves_plan : HalvesPlan
    halves_plan =
        let e = pair_earliest pairs f ok in
        let (i, b, u, h, at, takes) = e.pair in
        record {
          matching = legal_laying pairs f ok;
          highest = λ i v u h. laying_high pairs (free_in pairs f i) (length_in f i) v (room_in_law pairs f ok i u) h;
          lower_first = lower;
          time = λ i b. refl;
          streams = λ h. (streams_few pairs f ok, fed h);
          buffer = three;
          leads = halves_lead f ok;
          margin = halves_margin f;
          worst2 = worst_twice;
          worstat = (i, b, u, h, at, omega (arith, takes, worst_twice));
          before = λ i b u h l. omega (arith, e.first i b u h l, worst_twice);
        }
