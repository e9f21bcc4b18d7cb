-- The plan of figures in every showing: document 01's terms of 'Laying the film', each over the record of a card, with what document 02's
-- loop (T7.1 to T7.7), half blocks (ticket 11) and shelf of films (ticket 14) make of them.
use Rattle.std.specs.Prelude.{ℕ, zero, suc, ◌+◌, ◌*◌, cond, List, [], ◌∷◌, ◌++◌, eqb}
use Rattle.laws.specs.Greatest.{greatest_of, earliest_of}
use Rattle.laws.specs.Starts.{start_of}
use Rattle.numbers.specs.Refusals.{no_such_film}
use Rattle.numbers.specs.Showings.{once_word, loop_word, pairs_word}
use Rattle.card.specs.declared.Figures.{Figures}
use Rattle.card.specs.declared.Scalars.{Scalars}
use Rattle.card.specs.Card.{total_positions, length_in, blocks_of}
use Rattle.card.specs.Read.{blank_figures, figures_from}
use Rattle.placement.specs.Zones.{time_at}
use Rattle.placement.specs.Showing.{Showing, one, loop, pairs, visits_of, first_place, other_places, block_time, worst_at, walked}
use Rattle.placement.specs.Shelf.{free_for, laying_in}
use Rattle.pacing.specs.Film.{Film, lead}
use Rattle.pacing.specs.Streams.{overhead, streams, cap_of, buffer_of}
use Rattle.pacing.specs.Shelf.{name_of, film_in, block_in, shelf}
use Rattle.pacing.specs.Shelves.{laid_in, worst_in, worst_shelf, slowest_shelf, margin_shelf}
use Rattle.plan.specs.declared.Plan.{Plan}
use Rattle.plan.specs.declared.Numbers.{Numbers}

-- ---- which showing it is (T7.7)

-- the word that stands for a showing in a plan record
abbrev pub word_of : Showing → ℕ
word_of one = once_word
word_of loop = loop_word
word_of pairs = pairs_word

-- the showing that a word tells; a word that stands for none is compared with 0, and so never passes
unfoldable pub showing_of : ℕ → Showing
showing_of w = cond (eqb w loop_word) loop (cond (eqb w pairs_word) pairs one)

-- the showing whose blocks are the visits of a word's film
abbrev pub walk_of : ℕ → Showing
walk_of w = walked (showing_of w)

-- that of a plan record
abbrev pub showing_in : Plan → Showing
showing_in p = showing_of p.showing

-- ---- the films: film i has `length_in f i` blocks, and its blocks stand behind those of the films before it (ticket 14)

-- the blocks before film i: block b of it is number `start_in f i + b` through the lists
abbrev pub start_in : Figures → ℕ → ℕ
start_in f = start_of (length_in f)

-- that number of a block by its name, 65,536 × film + block
abbrev pub listed_at : Figures → ℕ → ℕ
listed_at f a = start_in f (film_in a) + block_in a

-- N of the longest film
unfoldable pub longest_of : Figures → ℕ
longest_of f = greatest_of (length_in f) f.films

-- ---- the terms

-- the time to read a block at a position (P2)
abbrev pub time_on : Figures → ℕ → ℕ
time_on f = time_at f.positions f.times

-- the positions that are free for film i: `in list order, each on the highest positions still free`
abbrev pub free_in : Showing → Figures → ℕ → ℕ
free_in x f = free_for x (total_positions f) (length_in f)

-- entry v of film i in the positions list: that of block v (P1, T7.3), of half blocks those of block b are 2b and 2b + 1, the lower first
abbrev pub position_in : Showing → Figures → ℕ → ℕ → ℕ
position_in x f = laying_in x (total_positions f) (length_in f)

-- how many entries all films have
abbrev pub entries_of : Showing → Figures → ℕ
entries_of x f = visits_of x * blocks_of f

-- the position of block b of film i, of half blocks that of the first half, and the others
abbrev pub first_in : Showing → Figures → ℕ → ℕ → ℕ
first_in x f i = first_place x (position_in x f i)

abbrev pub others_in : Showing → Figures → ℕ → ℕ → List ℕ
others_in x f i = other_places x (position_in x f i)

-- time(b) of film i (P2)
abbrev pub time_in : Showing → Figures → ℕ → ℕ → ℕ
time_in x f i = block_time x (time_on f) (position_in x f i)

-- the worst time of film i's own pairs (P3, T7.2)
abbrev pub worst2_in : Showing → Figures → ℕ → ℕ
worst2_in x f = worst_in x (time_on f) (total_positions f) (length_in f)

-- worst2: `the greatest of the films' own`
unfoldable pub worst2_of : Showing → Figures → ℕ
worst2_of x f = worst_shelf x (time_on f) (total_positions f) (length_in f) f.films

-- the film of the worst pair, the earliest where several are equal
unfoldable pub worst_film_of : Showing → Figures → ℕ
worst_film_of x f = earliest_of (worst2_in x f) f.films

-- the first block of film i's own worst pair, through the lists
abbrev pub worst_at_in : Showing → Figures → ℕ → ℕ
worst_at_in x f i = start_in f i + worst_at x (time_on f) (position_in x f i) (length_in f i)

-- worstat: the first block of the worst pair, the earliest where several are equal (T2.1), through the lists
unfoldable pub worst_at_of : Showing → Figures → ℕ
worst_at_of x f = worst_at_in x f (worst_film_of x f)

-- what a sweep of k blocks takes beside their times (D11, T3.5): the table's entry for all their visits
abbrev pub over_of : Showing → Figures → ℕ → ℕ
over_of x f k = overhead f.table (visits_of x * k)

-- streams (P4, T7.5); 0 where not even one fits
unfoldable pub streams_of : Showing → Figures → ℕ
streams_of x f = streams (cap_of x) f.rate (worst2_of x f) (over_of x f) f.bytes

-- the greatest time(b) of them all
unfoldable pub slowest_of : Showing → Figures → ℕ
slowest_of x f = slowest_shelf x (time_on f) (total_positions f) (length_in f) f.films

-- margin (P5, T7.5)
unfoldable pub margin_of : Showing → Figures → ℕ
margin_of x f = margin_shelf x (time_on f) (total_positions f) (length_in f) f.films

-- film i as it is laid
abbrev pub film_at : Showing → Figures → ℕ → Film ℕ
film_at x f = laid_in x (time_on f) (total_positions f) (length_in f)

-- the shelf of them, whose blocks go by their names; a join to another film is 31
abbrev pub film_of : Showing → Figures → Film ℕ
film_of x f = shelf f.films (film_at x f) no_such_film

-- the lead of a block by its name, with the common worst2 (P6, T7.6)
abbrev pub lead_of : Showing → Figures → ℕ → ℕ
lead_of x f = lead (film_of x f) (worst2_of x f)

-- lead(b) of film i
abbrev pub lead_in : Showing → Figures → ℕ → ℕ → ℕ
lead_in x f i b = lead_of x f (name_of i b)

-- buffer (P7, T7.5)
unfoldable pub buffer_size : Showing → Figures → ℕ
buffer_size x f = buffer_of f.rate (streams_of x f) (margin_of x f) f.bytes

-- the plan record (P9, T7.7, T2.2)
unfoldable pub plan_of : Showing → Figures → Plan
plan_of x f = record {
  figures = f;
  streams = streams_of x f;
  buffer = buffer_size x f;
  worst2 = worst2_of x f;
  margin = margin_of x f;
  showing = word_of x;
  worstat = worst_at_of x f;
}

-- a plan of its figures and its numbers
abbrev pub plan_from : Figures → Numbers → Plan
plan_from f m = record {
  figures = f;
  streams = m.streams;
  buffer = m.buffer;
  worst2 = m.worst2;
  margin = m.margin;
  showing = m.showing;
  worstat = m.worstat;
}

-- a plan of single numbers and lent arrays
abbrev pub lent_plan : Scalars → List ℕ → List ℕ → List ℕ → Numbers → Plan
lent_plan s ps ts os m = plan_from (figures_from s ps ts os) m

-- a plan that is all zero
unfoldable pub blank_plan : Plan
blank_plan = record { figures = blank_figures; streams = 0; buffer = 0; worst2 = 0; margin = 0; showing = 0; worstat = 0 }

-- ---- the two lists

-- g of n numbers in a row, from b on
unfoldable pub row : (ℕ → ℕ) → ℕ → ℕ → List ℕ
row g b zero = []
row g b (suc n) = g b ∷ row g (suc b) n

-- such rows of the first F films one after the other, film i's of n i numbers
unfoldable pub rows_of : (ℕ → ℕ → ℕ) → (ℕ → ℕ) → ℕ → List ℕ
rows_of g n zero = []
rows_of g n (suc i) = rows_of g n i ++ row (g i) 0 (n i)

-- what the two lent lists are filled with (P8): `the lists hold them in that order`
unfoldable pub positions_of : Showing → Figures → List ℕ
positions_of x f = rows_of (position_in x f) (λ i. visits_of x * length_in f i) f.films

unfoldable pub leads_of : Showing → Figures → List ℕ
leads_of x f = rows_of (lead_in x f) (length_in f) f.films
