-- Laws of what specs/WorstLaws defines.
use Rattle.std.specs.Prelude.{ℕ, ◌+◌, ◌*◌, ◌≤◌, ◌<◌, ◌≡◌, Bool, true, false, cond, ◌||◌, List, length, ltb, eqb}
use Rattle.std.proofs.Math.Path.{refl, sym}
use Rattle.std.proofs.Common.{◌∙◌, subst, ltb-false, lt-ltb, le-ltb}
use Rattle.std.proofs.Math.Logic.{by_cases}
use native.Mathlib.Omega.{arith}
use Rattle.std.proofs.Math.Decide.{dec_lt}
use Rattle.std.proofs.lemmas.Bool.{eqb-false}
use Rattle.laws.specs.Greatest.{greatest_of, greatest_of_above, earliest_of, Earliest}
use Rattle.laws.specs.Greatest.{earliest_is}
use Rattle.laws.specs.Starts.{start_of}
use Rattle.laws.specs.Through.{EarliestThrough, through_is, through_only}
use Rattle.numbers.specs.Limits.{max_window}
use Rattle.numbers.specs.Refusals.{not_sound, wrong_window}
use Rattle.card.specs.declared.Figures.{Figures}
use Rattle.card.specs.Card.{Legal, total_positions, length_in}
use Rattle.legality.specs.Legality.{Wide}
use Rattle.placement.specs.Showing.{Showing, visits_of}
use Rattle.pacing.specs.Window.{worst_window, window_at}
use Rattle.plan.specs.declared.Plan.{Plan}
use Rattle.plan.specs.Plan.{showing_in, time_on, longest_of}
use Rattle.plan.specs.Legal.{some_film}
use Rattle.window.specs.Window.{window_in, window_at_in, worst_window_of, window_at_of, is_laid, is_outside, window_fault, refusal, answer_by, window_answer}
use Rattle.window.specs.WindowLaws.{some_place, places_few, has_window, has_window_at, no_window, worst_positive, longest_above, laid_legal}
use Rattle.window_claims.specs.Worst.{IsWindow, window_of, WorstWindow}
use Rattle.window_claims.specs.WorstLaws.{place_in, in_place, places_in as places_in_in_specs, times_in as times_in_in_specs}

module _ (x : Showing) (f : Figures) (k : ℕ) where
  abbrev places_in : ℕ → ℕ
  places_in = places_in_in_specs x f k

  abbrev times_in : ℕ → ℕ → ℕ
  times_in = times_in_in_specs x f k

  window_in_law : (i b : ℕ) → IsWindow x f k i b → b < places_in i
  window_in_law i b w = rw (le-ltb (length_in f i) k w.long) (place_in x (length_in f i) k b w.place)

  in_window : (i b : ℕ) → i < f.films → b < places_in i → IsWindow x f k i b
  in_window i b u h = by_cases (dec_lt (length_in f i) k)
      (λ l. absurd (omega (arith, rw (lt-ltb (length_in f i) k l) at h)))
      (λ l. let n : k ≤ length_in f i = omega arith in
      record { film = u; long = n; place = in_place x (length_in f i) k b (rw (le-ltb (length_in f i) k n) at h) })

  -- the same through the films
  as_through : (t at : ℕ) → WorstWindow x f k t at → EarliestThrough times_in places_in (length_in f) f.films t at
  as_through t at w = record {
    here = let (i, b, p, e, d) = w.takes in (i, b, p.film, window_in_law i b p, e, d);
    above = λ i b u h. w.most i b (in_window i b u h);
    first = λ i b u h s. w.first i b (in_window i b u h) s;
  }

  of_through : (t at : ℕ) → EarliestThrough times_in places_in (length_in f) f.films t at → WorstWindow x f k t at
  of_through t at p = record {
    takes = let (i, b, u, h, e, d) = p.here in (i, b, in_window i b u h, e, d);
    most = λ i b w. p.above i b w.film (window_in_law i b w);
    first = λ i b w s. p.first i b w.film (window_in_law i b w) s;
  }

  -- the worst of a film is that of its places
  film_worst : (i : ℕ) → window_in x f k i ≡ greatest_of (times_in i) (places_in i)
  unfolding worst_window greatest_of
  film_worst i = by_cases (dec_lt (length_in f i) k)
      (λ l. no_window x (time_on f) (total_positions f) (length_in f) k i l ∙ rw (lt-ltb (length_in f i) k l) refl)
      (λ l. let n : k ≤ length_in f i = omega arith in
      has_window x (time_on f) (total_positions f) (length_in f) k i n ∙ rw (le-ltb (length_in f i) k n) refl)

  film_at_law : (i : ℕ) → k ≤ length_in f i → window_at_in x f k i ≡ start_of (length_in f) i + earliest_of (times_in i) (places_in i)
  unfolding window_at
  film_at_law i n = has_window_at x (time_on f) (total_positions f) (length_in f) k i n ∙ rw (le-ltb (length_in f i) k n) refl

  few_places : 0 < k → (i : ℕ) → places_in i ≤ length_in f i
  few_places some i = by_cases (dec_lt (length_in f i) k)
      (λ l. rw (lt-ltb (length_in f i) k l) (omega arith))
      (λ l. let n : k ≤ length_in f i = omega arith in rw (le-ltb (length_in f i) k n) (places_few x (length_in f i) k some))

  module _ (ok : Legal (visits_of x) f) (some : 0 < k) where
    -- the worst time and the earliest place are these
    pub window_worst : k ≤ longest_of f → WorstWindow x f k (worst_window_of x f k) (window_at_of x f k)
    unfolding worst_window_of window_at_of
    window_worst h =
        let F = f.films in
        let g = window_in x f k in
        let i = earliest_of g F in
        let e = earliest_is g F (some_film f ok) in
        let t = worst_value in
        let here : k ≤ length_in f i = by_cases (dec_lt (length_in f i) k)
        (λ l. absurd (omega (arith, no_window x (time_on f) (total_positions f) (length_in f) k i l, e.reached, t, worst_positive x f ok k some h)))
        (λ l. omega arith) in
        let p = through_is times_in places_in (length_in f) F (λ j u. few_places some j) i e.below
        (rw (le-ltb (length_in f i) k here) (some_place x (length_in f i) k some here))
        (λ j u. omega (arith, film_worst j, film_worst i, greatest_of_above g F j u, e.reached))
        (λ j u s. omega (arith, film_worst j, film_worst i, e.first j u, e.reached)) in
        of_through _ _ (subst (λ (a : ℕ). EarliestThrough times_in places_in (length_in f) F a (window_at_of x f k)) (sym (film_worst i) ∙ e.reached ∙ sym t)
        (subst (λ (a : ℕ). EarliestThrough times_in places_in (length_in f) F (greatest_of (times_in i) (places_in i)) a) (sym (film_at_law i here) ∙ sym at_value) p))
      where
        worst_value : worst_window_of x f k ≡ greatest_of (window_in x f k) f.films
        worst_value = refl

        at_value : window_at_of x f k ≡ window_at_in x f k (earliest_of (window_in x f k) f.films)
        at_value = refl

    -- and no others are
    pub worst_window_law : (t at : ℕ) → WorstWindow x f k t at → (t ≡ worst_window_of x f k) × (at ≡ window_at_of x f k)
    worst_window_law t at w =
        let (i, b, p, e, d) = w.takes in
        through_only times_in places_in (length_in f) f.films t _ at _ (as_through t at w)
        (as_through _ _ (window_worst (omega (arith, p.long, longest_above f i p.film))))

-- ---- the answer

-- an accepted answer has them
pub answer_worst : (p : Plan) (ps : List ℕ) (k : ℕ) → Wide p.figures → (window_answer p ps k).verdict.number ≡ 0
    → WorstWindow (showing_in p) p.figures k (window_answer p ps k).time (window_answer p ps k).first × ((window_answer p ps k).bytes ≡ k * p.figures.bytes)
unfolding window_answer window_fault is_outside refusal
answer_worst p ps k w e = go (is_laid p ps) refl (eqb k 0) refl (ltb max_window k) (ltb (longest_of p.figures) k) refl e
  where
    go : (s : Bool) → is_laid p ps ≡ s → (t : Bool) → eqb k 0 ≡ t → (u v : Bool) → ltb (longest_of p.figures) k ≡ v
        → (let a = answer_by (cond s (cond (t || (u || v)) wrong_window 0) not_sound) (showing_in p) p.figures k in
        a.verdict.number ≡ 0 → WorstWindow (showing_in p) p.figures k a.time a.first × (a.bytes ≡ k * p.figures.bytes))
    go false l t d u v q e = absurd (omega arith)
    go true l true d u v q e = absurd (omega arith)
    go true l false d true v q e = absurd (omega arith)
    go true l false d false true q e = absurd (omega arith)
    go true l false d false false q e = (
      window_worst (showing_in p) p.figures k (laid_legal p ps w l) (omega (arith, eqb-false k 0 d)) (omega (arith, ltb-false (longest_of p.figures) k q)),
      refl,
    )
