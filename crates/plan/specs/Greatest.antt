-- Lead and streams as document 01 says them, each the greatest of its kind, and the worst pair, without the functions that find them.
use Rattle.std.specs.Prelude.{ℕ, ◌+◌, ◌*◌, ◌≤◌, ◌<◌, ◌≡◌, get_or}
use Rattle.numbers.specs.Units.{parts}
use Rattle.card.specs.declared.Figures.{Figures}
use Rattle.card.specs.Card.{length_in}
use Rattle.placement.specs.Showing.{Showing, one, loop, pairs, visits_of, pairs_of, pair_time}
use Rattle.pacing.specs.Film.{span}
use Rattle.pacing.specs.Streams.{cap_of}
use Rattle.plan.specs.Plan.{start_in, time_on, position_in, worst2_of, film_at}

-- ---- runs

-- j blocks in a row from b on are a run: up to the film's end, or in a loop once round, N blocks (T7.6)
abbrev pub IsRun : Showing → ℕ → ℕ → ℕ → Type 0
IsRun one N b j = b + j ≤ N
IsRun loop N b j = j ≤ N
IsRun pairs N b j = b + j ≤ N

-- what has a lead: each block, and the end of a film shown once
abbrev pub Starts : Showing → ℕ → ℕ → Type 0
Starts one N b = b ≤ N
Starts loop N b = b < N
Starts pairs N b = b ≤ N

module _ (x : Showing) (f : Figures) where
  -- ---- P6: lead

  -- the times of j blocks of film i in a row, b the first, added up
  abbrev pub run_time : ℕ → ℕ → ℕ → ℕ
  run_time i b j = span (film_at x f i) j b

  -- m is the greatest sum of 2 × time − worst2 over a run of film i starting at b: no run of the film's blocks has a greater one, and some run has
  -- it. (The empty run has 0; what is taken off stands on the other side.)
  pub record GreatestRun (i b m : ℕ) : Type 0 where
    pub above : (j : ℕ) → IsRun x (length_in f i) b j → 2 * run_time i b j ≤ j * worst2_of x f + m
    pub reached : (j : ℕ) × IsRun x (length_in f i) b j × (2 * run_time i b j ≡ j * worst2_of x f + m)

  -- ---- P4: streams

  -- the formula of streams, with the table's entry as the overhead of the visits of n blocks (T3.5): n streams are fed, or are too many
  abbrev pub Feeds : ℕ → Type 0
  Feeds n = f.rate * (n * worst2_of x f + 2 * get_or f.table (visits_of x * n) 0) ≤ parts * f.bytes

  abbrev pub TooMany : ℕ → Type 0
  TooMany n = parts * f.bytes < f.rate * (n * worst2_of x f + 2 * get_or f.table (visits_of x * n) 0)

  -- n is the greatest whole number from 1 to 256, of half blocks to 128, that meets the formula
  pub record MostStreams (n : ℕ) : Type 0 where
    pub range : (1 ≤ n) × (n ≤ cap_of x)
    pub feeds : Feeds n
    pub most : (k : ℕ) → n < k → k ≤ cap_of x → TooMany k

  -- ---- T2.1: the worst pair

  -- what block b of film i and the one after it take, of half blocks twice what block b takes
  abbrev pub pair_in : ℕ → ℕ → ℕ
  pair_in i b = pair_time x (time_on f) (position_in x f i) (length_in f i) b

  -- the blocks of film i that begin a pair within it
  abbrev pub pairs_in : ℕ → ℕ
  pairs_in i = pairs_of x (length_in f i)

  -- the pair of block `at`, counted through the films, takes worst2, and no pair before it does
  pub record EarliestPair (at : ℕ) : Type 0 where
    pub pair : (i : ℕ) × (b : ℕ) × (i < f.films) × (b < pairs_in i) × (at ≡ start_in f i + b) × (pair_in i b ≡ worst2_of x f)
    pub first : (i b : ℕ) → i < f.films → b < pairs_in i → start_in f i + b < at → pair_in i b < worst2_of x f
