-- Laws of what specs/Ways defines.
use Prim.Native.Nat.{ℕ, zero, suc, ◌*◌, ◌≤◌, ◌<◌}
use Rattle.std.specs.Prelude.{◌≡◌, false, length, ltb}
use Rattle.std.proofs.Math.Path.{refl}
use Rattle.std.proofs.Common.{sym, ◌∙◌, subst, arith}
use borrow.Author.Tests.{lt-ltb, le-ltb, eq-eqb, ne_eqb}
use Rattle.numbers.specs.Limits.{max_time, max_tried}
use Rattle.numbers.specs.Refusals.{no_stream, film_too_long}
use Rattle.words.specs.Words.{words_of}
use Rattle.card.specs.declared.Figures.{Figures}
use Rattle.card.specs.declared.CardRead.{CardRead}
use Rattle.card.specs.Card.{Legal, length_in, blocks_of}
use Rattle.placement.specs.Showing.{Showing, one, visits_of}
use Rattle.pacing.specs.Streams.{streams}
use Rattle.plan.specs.Plan.{entries_of, streams_of, plan_of, blank_plan}
use Rattle.plan.proofs.Legal.{worst2_small}
use Rattle.plan.specs.Answer.{plan_fault, fault_after, refusal, answer, planned}
use Rattle.layings.specs.Layings.{least_of, count_of}
use Rattle.layings.specs.Times.{single_blocks}
use Rattle.layings.proofs.Times.{least_is_planned}
use Rattle.try_all.specs.declared.Tried.{Tried}
use Rattle.try_all.specs.Answer.{Few, tried_fault, not_tried, tried_by, tried, SameAnswer}
use Rattle.try_all.specs.Ways.{alone, fed as fed_in_specs}

module _ (x : Showing) (r : CardRead) where
  -- 29: the film alone
  pub by_length : r.verdict.number ≡ 0 → r.figures.films ≤ 1 → max_tried < length_in r.figures 0 → not_tried film_too_long 0 ≡ tried x r
  unfolding tried tried_fault
  by_length e alone h = rw (e, le-ltb 1 r.figures.films alone, lt-ltb max_tried (length_in r.figures 0) h)

  module _ (e : r.verdict.number ≡ 0) (few : Few r.figures) (w : ℕ) (least : w ≡ least_of x r.figures) where
    abbrev fed : ℕ → ℕ
    fed = fed_in_specs x r e few w least

    -- neither 29
    no_films : ltb 1 r.figures.films ≡ false
    no_films = le-ltb 1 r.figures.films few.0

    no_length : ltb max_tried (length_in r.figures 0) ≡ false
    no_length = le-ltb max_tried (length_in r.figures 0) few.1

    -- 12
    pub by_streams : fed w ≡ 0 → not_tried no_stream 0 ≡ tried x r
    unfolding tried tried_fault
    by_streams z = rw (e, no_films, no_length, eq-eqb (fed (least_of x r.figures)) 0 (rw least at z))

    -- accepted
    pub by_none : (n : ℕ) → n ≡ count_of x r.figures → (fed w ≡ 0 → ⊥)
        → ◌≡◌ {A = Tried} (record { verdict = record { number = 0; place = 0 }; worst2 = w; count = n }) (tried x r)
    unfolding tried tried_fault
    by_none n d z = rw (e, no_films, no_length, ne_eqb (fed (least_of x r.figures)) 0 (rw least at z))
        (λ i. record { verdict = record { number = 0; place = 0 }; worst2 = least i; count = d i })

-- their worst2 is small
pub least_small : (x : Showing) → visits_of x ≡ 1 → (f : Figures) → Legal 1 f → f.films ≡ 1 → least_of x f ≤ 2 * (1 * max_time)
least_small x v f ok alone =
    let small : least_of x f ≤ 2 * (visits_of x * max_time) =
    omega (arith, least_is_planned x v f ok alone, worst2_small x f (subst (λ (k : ℕ). Legal k f) (sym v) ok)) in
    rw v at small

-- ---- both planners

-- the same fault
fault_same : (x : Showing) → visits_of x ≡ 1 → (f : Figures) (np nl : ℕ) → Legal 1 f → Few f → length_in f 0 ≤ np → length_in f 0 ≤ nl
    → tried_fault x f ≡ plan_fault x f np nl
unfolding tried_fault plan_fault streams_of
fault_same x v f np nl ok few p l =
    let one = alone f ok few in
    let all = single_blocks f one in
    let entries : entries_of x f ≡ blocks_of f = rw v (omega arith) in
    rw (
      le-ltb 1 f.films few.0,
      le-ltb max_tried (length_in f 0) few.1,
      entries,
      le-ltb np (blocks_of f) (omega arith),
      le-ltb nl (blocks_of f) (omega arith),
      least_is_planned x v f ok one,
    )

pub same_answer : (x : Showing) → visits_of x ≡ 1 → (r : CardRead) → (r.verdict.number ≡ 0 → Legal 1 r.figures) → SameAnswer x r
unfolding tried planned
same_answer x v r legal ps ls few p l = go r.verdict.number (λ e. legal e)
  where
    f : Figures
    f = r.figures

    -- by the fault of figures that were accepted
    by : (j : ℕ) → Legal 1 f → ((tried_by x 0 j r).verdict ≡ (answer x 0 j r).verdict) × ((tried_by x 0 j r).worst2 ≡ (answer x 0 j r).plan.worst2)
    by zero ok = (refl, least_is_planned x v f ok (alone f ok few) ∙ (unfold plan_of in refl))
    by (suc j) ok = (unfold not_tried in unfold refusal in refl, unfold not_tried in unfold refusal in unfold blank_plan in refl)

    go : (k : ℕ) → (k ≡ 0 → Legal 1 f)
        → ((tried_by x k (tried_fault x f) r).verdict ≡ (answer x k (fault_after x r ps ls) r).verdict)
        × ((tried_by x k (tried_fault x f) r).worst2 ≡ (answer x k (fault_after x r ps ls) r).plan.worst2)
    go zero ok = rw (fault_same x v f (length (words_of ps)) (length (words_of ls)) (ok refl) few p l)
        (by (plan_fault x f (length (words_of ps)) (length (words_of ls))) (ok refl))
    go (suc k) ok = (unfold not_tried in unfold refusal in refl, unfold not_tried in unfold refusal in unfold blank_plan in refl)
