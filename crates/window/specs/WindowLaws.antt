-- Laws of the worst window: the films that have one, and that a legal film's takes some time.
-- Assumes nothing.
use Prim.Native.Nat.{ℕ, zero, suc, ◌+◌, ◌≤◌, ◌<◌}
use Rattle.std.specs.Prelude.{◌≡◌, true, List}
use native.Mathlib.Omega.{arith}
use Rattle.std.proofs.Common.{lt-ltb, le-ltb}
use Rattle.laws.specs.Greatest.{greatest_of_above, greatest_of_reached, earliest_le}
use Rattle.laws.specs.Bools.{and_left}
use Rattle.laws.specs.Starts.{start_of}
use Rattle.laws.specs.Through.{Found, found_at}
use Rattle.card.specs.declared.Figures.{Figures}
use Rattle.card.specs.Card.{Legal, total_positions, length_in}
use Rattle.legality.specs.Legality.{Wide}
use Rattle.placement.specs.Showing.{Showing, one, loop, pairs, visits_of}
use Rattle.placement.specs.Shelf.{laying_in}
use Rattle.pacing.specs.Film.{span}
use Rattle.pacing.specs.Window.{places_of, window_time, worst_window, window_at}
use Rattle.plan.specs.declared.Plan.{Plan}
use Rattle.plan.specs.Plan.{showing_in, time_on, position_in, longest_of}
use Rattle.plan.specs.Answer.{has_numbers}
use Rattle.plan.proofs.Check.{numbered}
use Rattle.plan.specs.Legal.{some_film}
use Rattle.plan.proofs.Legal.{block_time_law}
use Rattle.window.specs.Window.{film_window, film_window_at, window_in, window_at_in, worst_window_of, window_at_of, is_laid}

-- a film of k blocks or more has a place for a window of k
pub some_place : (x : Showing) (N k : ℕ) → 0 < k → k ≤ N → 0 < places_of x N k
some_place one N k some h = omega arith
some_place loop N k some h = omega arith
some_place pairs N k some h = omega arith

pub places_few : (x : Showing) (N k : ℕ) → 0 < k → places_of x N k ≤ N
places_few one N k some = omega arith
places_few loop N k some = omega arith
places_few pairs N k some = omega arith

pub window_at_few : (x : Showing) (τ l : ℕ → ℕ) (N k : ℕ) → 0 < k → window_at x τ l N k ≤ N
unfolding window_at
window_at_few x τ l N k some = omega (arith, earliest_le (window_time x τ l N k) (places_of x N k), places_few x N k some)

-- a film by its length
module _ (x : Showing) (τ : ℕ → ℕ) (P : ℕ) (N : ℕ → ℕ) (k i : ℕ) where
  pub has_window : k ≤ N i → film_window x τ P N k i ≡ worst_window x τ (laying_in x P N i) (N i) k
  unfolding film_window
  has_window h = rw (le-ltb (N i) k h)

  pub has_window_at : k ≤ N i → film_window_at x τ P N k i ≡ start_of N i + window_at x τ (laying_in x P N i) (N i) k
  unfolding film_window_at
  has_window_at h = rw (le-ltb (N i) k h)

  pub no_window : N i < k → film_window x τ P N k i ≡ 0
  unfolding film_window
  no_window h = rw (lt-ltb (N i) k h)

module _ (x : Showing) (f : Figures) (ok : Legal (visits_of x) f) (k : ℕ) (some : 0 < k) where
  -- k blocks of a film take the time of the first at least
  pub window_positive : (i : ℕ) → i < f.films → k ≤ length_in f i → 0 < window_in x f k i
  unfolding worst_window span
  window_positive i u h =
      omega (
        arith,
        has_window x (time_on f) (total_positions f) (length_in f) k i h,
        greatest_of_above (window_time x (time_on f) (position_in x f i) (length_in f i) k) (places_of x (length_in f i) k) 0 (some_place x (length_in f i) k some h),
        first k some,
      )
    where
      first : (j : ℕ) → 0 < j → 0 < window_time x (time_on f) (position_in x f i) (length_in f i) j 0
      first zero s = absurd (omega arith)
      first (suc j) s = omega (arith, (block_time_law x f ok i 0 u (omega arith)).0)

  -- so do those of the worst window
  pub worst_positive : k ≤ longest_of f → 0 < worst_window_of x f k
  unfolding worst_window_of longest_of
  worst_positive h =
      let (i, u, e) = greatest_of_reached (length_in f) f.films (some_film f ok) in
      omega (arith, window_positive i u (omega arith), greatest_of_above (window_in x f k) f.films i u)

-- no film is longer than the longest
pub longest_above : (f : Figures) (i : ℕ) → i < f.films → length_in f i ≤ longest_of f
unfolding longest_of
longest_above f i u = greatest_of_above (length_in f) f.films i u

-- what a walk over the films finds is the worst window; P is the disk's positions
pub found_window : (x : Showing) (f : Figures) → Legal (visits_of x) f → (k : ℕ) → 0 < k → k ≤ longest_of f → (P t at : ℕ) → P ≡ total_positions f
    → Found (film_window x (time_on f) P (length_in f) k) (film_window_at x (time_on f) P (length_in f) k) f.films t at
    → (t ≡ worst_window_of x f k) × (at ≡ window_at_of x f k)
unfolding worst_window_of window_at_of
found_window x f ok k some h P t at e q = by (rw e at q)
  where
    by : Found (window_in x f k) (window_at_in x f k) f.films t at → (t ≡ worst_window_of x f k) × (at ≡ window_at_of x f k)
    by p =
        let v = p.peak.value in
        (v, found_at (window_in x f k) (window_at_in x f k) f.films t at p (omega (arith, worst_positive x f ok k some h)))

-- what is laid has legal figures
pub laid_legal : (p : Plan) (ps : List ℕ) → Wide p.figures → is_laid p ps ≡ true → Legal (visits_of (showing_in p)) p.figures
unfolding is_laid
laid_legal p ps w e = (numbered p w (and_left (has_numbers p) _ e)).legal
