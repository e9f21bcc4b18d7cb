-- Where the films of a desk's plan begin in the lists (document 02, ticket 14), as an array says it.
-- Assumes nothing.
use Rattle.std.specs.Prelude.{ℕ, ◌+◌, ◌≤◌, ◌<◌, ◌≡◌, List, length, get_or}
use Rattle.std.proofs.Common.{ap, arith}
use Rattle.laws.specs.Starts.{start_rises}
use Rattle.numbers.specs.Limits.{max_blocks, max_films}
use Rattle.card.specs.declared.Figures.{Figures}
use Rattle.card.specs.Card.{Legal, length_in, blocks_of}
use Rattle.pacing.specs.Shelf.{film_in, block_in}
use Rattle.plan.specs.Plan.{start_in, listed_at}

-- there are not too many films, nor blocks
pub record ShelfSmall (f : Figures) : Type 0 where
  pub few : f.films ≤ max_films
  pub all : blocks_of f ≤ max_blocks

-- legal figures are so
pub legal_small : {k : ℕ} (f : Figures) → Legal k f → ShelfSmall f
legal_small f ok = record { few = ok.films.1; all = ok.all }

-- an array has where each film begins
pub record StartsOf (f : Figures) (ss : List ℕ) : Type 0 where
  pub wide : length ss ≡ max_films
  pub each : (i : ℕ) → i < f.films → get_or ss i 0 ≡ start_in f i

-- it has that of the film that a word names, in its range
pub record HasStart (ss : List ℕ) (a : ℕ) : Type 0 where
  pub one : film_in a < max_films
  pub small : get_or ss (film_in a) 0 ≤ max_blocks

-- the number through the lists of the block that a word names, by such an array
abbrev pub entry_of : List ℕ → ℕ → ℕ
entry_of ss a = get_or ss (film_in a) 0 + block_in a

pub entry_listed : (f : Figures) (ss : List ℕ) → StartsOf f ss → (a : ℕ) → film_in a < f.films → entry_of ss a ≡ listed_at f a
entry_listed f ss h a u = ap (λ (n : ℕ). n + block_in a) (h.each (film_in a) u)

pub has_start : (f : Figures) (ss : List ℕ) → ShelfSmall f → StartsOf f ss → (a : ℕ) → film_in a < f.films → HasStart ss a
has_start f ss s h a u = record {
  one = omega (arith, s.few);
  small = omega (arith, h.each (film_in a) u, start_rises (length_in f) (film_in a) f.films (omega arith), s.all);
}
