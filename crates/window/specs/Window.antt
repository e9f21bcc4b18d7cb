-- Document 02, ticket 9: the worst window of k blocks of a plan's films, each window within one film (ticket 14), and the answer of the call.
use Rattle.std.specs.Prelude.{ℕ, zero, suc, ◌+◌, ◌*◌, List, Bool, cond, ◌&&◌, ◌||◌, ltb, eqb}
use Rattle.numbers.specs.Limits.{max_window}
use Rattle.numbers.specs.Refusals.{not_sound, wrong_window}
use Rattle.card.specs.declared.Figures.{Figures}
use Rattle.card.specs.Card.{total_positions, length_in}
use Rattle.laws.specs.Greatest.{greatest_of, earliest_of}
use Rattle.laws.specs.Starts.{start_of}
use Rattle.placement.specs.Showing.{Showing}
use Rattle.placement.specs.Shelf.{laying_in}
use Rattle.pacing.specs.Window.{worst_window, window_at}
use Rattle.plan.specs.declared.Plan.{Plan}
use Rattle.plan.specs.Plan.{showing_in, time_on, longest_of}
use Rattle.plan.specs.Answer.{has_numbers, has_positions}
use Rattle.window.specs.declared.Window.{Window}

-- ---- films of N i blocks on P positions, τ being the time of a position

module _ (x : Showing) (τ : ℕ → ℕ) (P : ℕ) (N : ℕ → ℕ) (k : ℕ) where
  -- the worst time of k successive blocks of film i (T9.2); a film of fewer has no window, and counts as 0
  unfoldable pub film_window : ℕ → ℕ
  film_window i = cond (ltb (N i) k) 0 (worst_window x τ (laying_in x P N i) (N i) k)

  -- the earliest place where they take it (T9.3), counted through the films
  unfoldable pub film_window_at : ℕ → ℕ
  film_window_at i = start_of N i + cond (ltb (N i) k) 0 (window_at x τ (laying_in x P N i) (N i) k)

module _ (x : Showing) (f : Figures) (k : ℕ) where
  abbrev pub window_in : ℕ → ℕ
  window_in = film_window x (time_on f) (total_positions f) (length_in f) k

  abbrev pub window_at_in : ℕ → ℕ
  window_at_in = film_window_at x (time_on f) (total_positions f) (length_in f) k

  -- the worst time of k successive blocks of one film
  unfoldable pub worst_window_of : ℕ
  worst_window_of = greatest_of window_in f.films

  -- the earliest place where they take it, through the films
  unfoldable pub window_at_of : ℕ
  window_at_of = window_at_in (earliest_of window_in f.films)

-- ---- the answer

-- a plan and its positions list are of its figures (T9.5); a shorter list is not
unfoldable pub is_laid : Plan → List ℕ → Bool
is_laid p ps = has_numbers p && has_positions p ps

-- a window of k blocks is out of range for films of at most N (T9.8): 0 blocks, above 64 or above N
unfoldable pub is_outside : ℕ → ℕ → Bool
is_outside k N = eqb k 0 || (ltb max_window k || ltb N k)

-- 14, then 27 (T9.8); 0 where neither is so
unfoldable pub window_fault : Plan → List ℕ → ℕ → ℕ
window_fault p ps k = cond (is_laid p ps) (cond (is_outside k (longest_of p.figures)) wrong_window 0) not_sound

-- a refusal: the number, place 0 and zero figures
unfoldable pub refusal : ℕ → Window
refusal n = record { verdict = record { number = n; place = 0 }; time = 0; first = 0; bytes = 0 }

-- the answer by the number of the refusal: the worst time, the earliest place and k × B bytes (T9.4)
abbrev pub answer_by : ℕ → Showing → Figures → ℕ → Window
answer_by zero x f k = record { verdict = record { number = 0; place = 0 }; time = worst_window_of x f k; first = window_at_of x f k; bytes = k * f.bytes }
answer_by (suc n) x f k = refusal (suc n)

-- THE ANSWER to a plan p, its positions list ps and k
unfoldable pub window_answer : Plan → List ℕ → ℕ → Window
window_answer p ps k = answer_by (window_fault p ps k) (showing_in p) p.figures k
