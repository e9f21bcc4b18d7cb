-- The worst window is the greatest and the earliest, and no other pair of numbers is; what it is for two blocks; and that planned films have it.
-- Assumes nothing.
use Rattle.std.specs.Prelude.{ℕ, zero, suc, ◌+◌, ◌*◌, ◌/◌, ◌%◌, ◌≤◌, ◌<◌, ◌≡◌, true, cond, List, length, ltb}
use Rattle.std.proofs.Math.Path.{refl, sym, ap}
use Rattle.std.proofs.Common.{◌∙◌, subst, mul-le-mul_right, lt-ltb}
use Rattle.std.proofs.Math.Logic.{by_cases}
use native.Mathlib.Omega.{arith}
use Rattle.std.proofs.Math.Decide.{dec_lt}
use Rattle.std.proofs.Math.Nat.{mul-le-mul_left}
use Rattle.laws.specs.Bools.{and_left, and_right, and_both}
use Rattle.laws.specs.Greatest.{greatest_of, greatest_of_least, greatest_of_same, earliest_of, first_reaching, Earliest}
use Rattle.laws.specs.Greatest.{earliest_is, earliest_same, earliest_unique}
use Rattle.laws.specs.Starts.{start_of}
use Rattle.numbers.specs.Refusals.{wrong_window}
use Rattle.words.specs.Words.{words_of, with_words}
use Rattle.card.specs.declared.Figures.{Figures}
use Rattle.card.specs.Card.{Legal, total_positions, length_in, blocks_of}
use Rattle.legality.specs.Legality.{Wide}
use Rattle.placement.specs.Showing.{Showing, one, loop, pairs, visits_of, visits_few, worst_at, greatest_twice}
use Rattle.pacing.specs.Window.{places_of, worst_window, window_at}
use Rattle.pacing.specs.WindowLaws.{even_window, two_worst, two_at, one_worst, one_at}
use Rattle.pacing.specs.Shelves.{worst_shelf, worst_above}
use Rattle.plan.specs.declared.Plan.{Plan}
use Rattle.plan.specs.Plan.{showing_in, time_on, position_in, entries_of, worst2_in, worst2_of, worst_film_of, worst_at_in, worst_at_of, longest_of, streams_of, plan_of}
use Rattle.plan.specs.Plan.{positions_of}
use Rattle.plan.specs.Answer.{has_numbers, has_positions, is_plan}
use Rattle.plan.proofs.Check.{numbers_say, plan_passes}
use Rattle.plan.specs.Legal.{some_film, film_two}
use Rattle.window.specs.Window.{window_in, worst_window_of, window_at_of, is_laid, is_outside, window_fault}
use Rattle.window.specs.WindowLaws.{has_window, has_window_at, no_window, laid_legal}
use Rattle.window_claims.specs.Worst.{IsPlace, window_of}

-- the places are those below `places_of`
pub place_in : (x : Showing) (N k b : ℕ) → IsPlace x N k b → b < places_of x N k
place_in one N k b h = omega arith
place_in loop N k b h = h
place_in pairs N k b h = omega arith

pub in_place : (x : Showing) (N k b : ℕ) → b < places_of x N k → IsPlace x N k b
in_place one N k b h = omega arith
in_place loop N k b h = h
in_place pairs N k b h = omega arith

module _ (x : Showing) (f : Figures) (k : ℕ) where
  -- the places of film i: none where it is shorter
  abbrev pub places_in : ℕ → ℕ
  places_in i = cond (ltb (length_in f i) k) 0 (places_of x (length_in f i) k)

  abbrev pub times_in : ℕ → ℕ → ℕ
  times_in = window_of x f k

  module _ (ok : Legal (visits_of x) f) (some : 0 < k) where
    -- a film with a place is long enough
    long_film : (i : ℕ) → 0 < places_in i → k ≤ length_in f i
    long_film i h = by_cases (dec_lt (length_in f i) k) (λ l. absurd (omega (arith, rw (lt-ltb (length_in f i) k l) at h))) (λ l. omega arith)

  -- an even window takes at most half its blocks times worst2 (T9.7)
  pub even_worst : k % 2 ≡ 0 → worst_window_of x f k ≤ k / 2 * worst2_of x f
  unfolding worst_window_of worst2_of
  even_worst even = greatest_of_least (window_in x f k) f.films _ (λ i u. by_cases (dec_lt (length_in f i) k)
      (λ l. omega (arith, no_window x (time_on f) (total_positions f) (length_in f) k i l))
      (λ l. omega (
        arith,
        has_window x (time_on f) (total_positions f) (length_in f) k i (omega arith),
        even_window (time_on f) (position_in x f i) (length_in f i) x k even,
        mul-le-mul_left (k / 2) (worst_above x (time_on f) (total_positions f) (length_in f) f.films i u),
      )))

-- the window of two blocks, each visited once, is the plan's worst pair
module _ (x : Showing) (v : visits_of x ≡ 1) (f : Figures) (ok : Legal (visits_of x) f) where
  two_film : (i : ℕ) → i < f.films → window_in x f 2 i ≡ worst2_in x f i
  two_film i u = has_window x (time_on f) (total_positions f) (length_in f) 2 i (film_two f ok i u) ∙ two_worst (time_on f) (position_in x f i) (length_in f i) x v

  pub two_worst2 : worst_window_of x f 2 ≡ worst2_of x f
  unfolding worst_window_of worst2_of worst_shelf
  two_worst2 = greatest_of_same (window_in x f 2) (worst2_in x f) f.films two_film

  pub two_worstat : window_at_of x f 2 ≡ worst_at_of x f
  unfolding window_at_of worst_at_of worst_film_of
  two_worstat =
      let F = f.films in
      let i = earliest_of (window_in x f 2) F in
      let e = earliest_is (window_in x f 2) F (some_film f ok) in
      let same = earliest_unique (worst2_in x f) F i _ (earliest_same _ _ F i two_film e) (earliest_is (worst2_in x f) F (some_film f ok)) in
      has_window_at x (time_on f) (total_positions f) (length_in f) 2 i (film_two f ok i e.below)
      ∙ ap (λ (b : ℕ). start_of (length_in f) i + b) (two_at (time_on f) (position_in x f i) (length_in f i) x v)
      ∙ ap (worst_at_in x f) same

pub two_is_worst2 : (p : Plan) (ps : List ℕ) → Wide p.figures → visits_of (showing_in p) ≡ 1 → is_laid p ps ≡ true
    → (worst_window_of (showing_in p) p.figures 2 ≡ p.worst2) × (window_at_of (showing_in p) p.figures 2 ≡ p.worstat)
unfolding is_laid plan_of
two_is_worst2 p ps w v e =
    let x = showing_in p in
    let f = p.figures in
    let ok = laid_legal p ps w e in
    let q = (numbers_say p (and_left (has_numbers p) _ e)).2 in
    (two_worst2 x v f ok ∙ sym (ap (λ (r : Plan). r.worst2) q), two_worstat x v f ok ∙ sym (ap (λ (r : Plan). r.worstat) q))

-- the first block that takes the most, in a film of no block too
half_at : (τ l : ℕ → ℕ) (N : ℕ) → window_at pairs τ l N 1 ≡ worst_at pairs τ l N
unfolding window_at worst_at earliest_of first_reaching
half_at τ l zero = refl
half_at τ l (suc n) = one_at τ l (suc n) (omega arith)

-- of half blocks that of one block takes p, half of worst2, and starts at worstat
module _ (f : Figures) (ok : Legal 2 f) where
  half_film : (i : ℕ) → i < f.films → worst2_in pairs f i ≡ 2 * window_in pairs f 1 i
  half_film i u =
      let n : 1 ≤ length_in f i = omega (arith, film_two f ok i u) in
      ap (λ (t : ℕ). 2 * t)
      (sym (has_window pairs (time_on f) (total_positions f) (length_in f) 1 i n ∙ one_worst (time_on f) (position_in pairs f i) (length_in f i)))

  half_worst : worst2_of pairs f ≡ 2 * worst_window_of pairs f 1
  unfolding worst_window_of worst2_of worst_shelf
  half_worst =
      greatest_of_same (worst2_in pairs f) (λ i. 2 * window_in pairs f 1 i) f.films half_film ∙ sym (greatest_twice (window_in pairs f 1) f.films)

  pub one_worst2 : 2 * worst_window_of pairs f 1 ≡ worst2_of pairs f
  one_worst2 = sym half_worst

  pub one_worstat : window_at_of pairs f 1 ≡ worst_at_of pairs f
  unfolding window_at_of worst_at_of worst_film_of worst_window_of worst2_of worst_shelf
  one_worstat =
      let F = f.films in
      let g = window_in pairs f 1 in
      let i = earliest_of g F in
      let e = earliest_is g F (some_film f ok) in
      let n : 1 ≤ length_in f i = omega (arith, film_two f ok i e.below) in
      let twice : Earliest (worst2_in pairs f) F i = record {
        below = e.below;
        reached = omega (arith, half_film i e.below, e.reached, half_worst);
        first = λ a u. omega (arith, half_film a (omega (arith, e.below)), e.first a u, half_worst);
      } in
      has_window_at pairs (time_on f) (total_positions f) (length_in f) 1 i n
      ∙ ap (λ (b : ℕ). start_of (length_in f) i + b) (half_at (time_on f) (position_in pairs f i) (length_in f i))
      ∙ ap (worst_at_in pairs f) (earliest_unique (worst2_in pairs f) F i _ twice (earliest_is (worst2_in pairs f) F (some_film f ok)))

pub one_is_half : (p : Plan) (ps : List ℕ) → Wide p.figures → showing_in p ≡ pairs → is_laid p ps ≡ true
    → (2 * worst_window_of (showing_in p) p.figures 1 ≡ p.worst2) × (window_at_of (showing_in p) p.figures 1 ≡ p.worstat)
unfolding is_laid plan_of
one_is_half p ps w s e =
    let f = p.figures in
    let ok = subst (λ (x : Showing). Legal (visits_of x) f) s (laid_legal p ps w e) in
    let q = (numbers_say p (and_left (has_numbers p) _ e)).2 ∙ ap (λ (x : Showing). plan_of x f) s in
    rw s (one_worst2 f ok ∙ sym (ap (λ (r : Plan). r.worst2) q), one_worstat f ok ∙ sym (ap (λ (r : Plan). r.worstat) q))

-- what the planner leaves of a legal film is of its figures, so 27 alone may come
pub planned_windows : (x : Showing) (f : Figures) → Legal (visits_of x) f → 0 < streams_of x f → (ps : List ℕ) → entries_of x f ≤ length (words_of ps) → (k : ℕ)
    → window_fault (plan_of x f) (with_words ps 0 (positions_of x f)) k ≡ cond (is_outside k (longest_of f)) wrong_window 0
unfolding window_fault is_laid is_plan plan_of
planned_windows x f ok fed ps h k =
    let e = plan_passes x f ok fed ps ps h (omega (arith, mul-le-mul_right (blocks_of f) (visits_few x).0)) in
    let n = and_left (has_numbers (plan_of x f)) _ e in
    let q = and_left (has_positions (plan_of x f) (with_words ps 0 (positions_of x f))) _ (and_right (has_numbers (plan_of x f)) _ e) in
    rw (and_both n q) refl
