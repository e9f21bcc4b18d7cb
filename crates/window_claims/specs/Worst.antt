-- The worst window as document 02 says it, without the functions that find it.
use Rattle.std.specs.Prelude.{ℕ, ◌+◌, ◌≤◌, ◌<◌, ◌≡◌}
use Rattle.card.specs.declared.Figures.{Figures}
use Rattle.card.specs.Card.{length_in}
use Rattle.placement.specs.Showing.{Showing, one, loop, pairs}
use Rattle.pacing.specs.Film.{span}
use Rattle.plan.specs.Plan.{start_in, film_at}

-- k successive blocks of N may start at b (T9.6): once all of them are in the film, in a loop b is
abbrev pub IsPlace : Showing → ℕ → ℕ → ℕ → Type 0
IsPlace one N k b = b + k ≤ N
IsPlace loop N k b = b < N
IsPlace pairs N k b = b + k ≤ N

module _ (x : Showing) (f : Figures) (k : ℕ) where
  -- the times of k successive blocks of film i, b the first, added up (T9.2)
  abbrev pub window_of : ℕ → ℕ → ℕ
  window_of i b = span (film_at x f i) k b

  -- they are a window: `a window lies within one film` (ticket 14), which has as many blocks
  pub record IsWindow (i b : ℕ) : Type 0 where
    pub film : i < f.films
    pub long : k ≤ length_in f i
    pub place : IsPlace x (length_in f i) k b

  -- t is the worst time of k successive blocks, and `at` the earliest place, counted through the films, where they take it (T9.2, T9.3)
  pub record WorstWindow (t at : ℕ) : Type 0 where
    pub takes : (i : ℕ) × (b : ℕ) × IsWindow i b × (at ≡ start_in f i + b) × (window_of i b ≡ t)
    pub most : (i b : ℕ) → IsWindow i b → window_of i b ≤ t
    pub first : (i b : ℕ) → IsWindow i b → start_in f i + b < at → window_of i b < t
