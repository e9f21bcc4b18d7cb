-- The figures of a record, their judge (R23), and the card that is made of them (K3).
use Rattle.std.specs.Prelude.{ℕ, zero, suc, ◌+◌, ◌*◌, ◌≤◌, ◌<◌, ◌≡◌, ◌⊎◌, List, [], ◌∷◌, ◌++◌, Bool, cond, ◌&&◌, length, get_or, take, drop, set, replicate, leb, eqb, Result, Ok, Err}
use Rattle.laws.specs.Runs.{all_by, sum_by}
use Rattle.laws.specs.Starts.{start_of}
use Rattle.numbers.specs.Limits.{straight_kind, measured_kind, max_zones, max_positions, max_time, times_as_fast, min_blocks, max_blocks, max_films}
use Rattle.numbers.specs.Limits.{max_bytes, max_rate, table_length}
use Rattle.numbers.specs.Refusals.{wrong_zones, too_short, wrong_films}
use Rattle.leb128.specs.Number.{groups}
use Rattle.card.specs.declared.Figures.{Figures}
use Rattle.card.specs.declared.Verdict.{Verdict}
use Rattle.card.specs.declared.CardWritten.{CardWritten}
use Rattle.numbers.specs.declared.refusals.Refusal.{Refusal}
use Rattle.numbers.specs.Numbered.{number_of}
use Rattle.card_field.specs.declared.Rule.TheVariants.{Kind, Zones, Positions, Films, Measure}
use Rattle.card_field.specs.Ranges.{first, fault_of, time_fault, blocks_fault}
use Rattle.card_field.specs.Row.{row_fault, row_numbers}
use Rattle.card_table.specs.Table.{Straight, Measured, table_fault, table_numbers}

-- ---- legal figures: the table of ranges as plain facts (K4; document 02, T3.2 to T3.8 and T8.3)

-- P, the positions of all zones
unfoldable pub total_positions : Figures → ℕ
total_positions f = sum_by (λ (p : ℕ). p) (take f.zones f.positions)

-- N of film i, 0 where the shelf has no such film (document 02, ticket 14)
abbrev pub length_in : Figures → ℕ → ℕ
length_in f i = get_or f.blocks i 0

-- the blocks of all films
abbrev pub blocks_of : Figures → ℕ
blocks_of f = start_of (length_in f) f.films

-- a record's entries for the films of a shelf that has one, of n blocks
unfoldable pub one_film : ℕ → List ℕ
one_film n = set (replicate max_films 0) 0 n

-- legal figures, of which each block takes k positions: 1, or 2 for half blocks (document 02, ticket 11)
pub record Legal (k : ℕ) (f : Figures) : Type 0 where
  -- the entries of a record
  pub wide : (length f.positions ≡ max_zones) × (length f.times ≡ max_zones) × (length f.blocks ≡ max_films) × (length f.table ≡ table_length)
  pub kind : (f.kind ≡ straight_kind) ⊎ (f.kind ≡ measured_kind)
  pub zones : (1 ≤ f.zones) × (f.zones ≤ max_zones)
  pub unused : (i : ℕ) → f.zones ≤ i → (get_or f.positions i 0 ≡ 0) × (get_or f.times i 0 ≡ 0)
  pub positions : (i : ℕ) → i < f.zones → 1 ≤ get_or f.positions i 0
  pub total : total_positions f ≤ max_positions
  pub times : (i : ℕ) → i < f.zones → (1 ≤ get_or f.times i 0) × (get_or f.times i 0 ≤ max_time)
  -- never above the zone before
  pub falling : (i : ℕ) → suc i < f.zones → get_or f.times (suc i) 0 ≤ get_or f.times i 0
  -- times three, never below the first zone
  pub thrice : (i : ℕ) → i < f.zones → get_or f.times 0 0 ≤ times_as_fast * get_or f.times i 0
  pub films : (1 ≤ f.films) × (f.films ≤ max_films)
  pub idle : (i : ℕ) → f.films ≤ i → length_in f i ≡ 0
  pub blocks : (i : ℕ) → i < f.films → (min_blocks ≤ length_in f i) × (length_in f i ≤ max_blocks)
  pub all : blocks_of f ≤ max_blocks
  pub room : k * blocks_of f ≤ total_positions f
  pub bytes : (1 ≤ f.bytes) × (f.bytes ≤ max_bytes)
  pub rate : (1 ≤ f.rate) × (f.rate ≤ max_rate)
  pub straight : f.kind ≡ straight_kind → Straight f.table
  pub measured : f.kind ≡ measured_kind → Measured f.table

-- ---- the judge of a record: 3 to 10 in the card's order, 26 right after 7, 30 before and after 8, 25 in place of hop and return, 28 in place
-- of 9 for half blocks

-- the numbers of a list are zero from the i-th on
abbrev pub zeros : ℕ → List ℕ → Bool
zeros i vs = all_by (λ (v : ℕ). eqb v 0) (drop i vs)

-- the shelf (document 02, ticket 14): the number of films, a record's unused entries, then N of each film, of which each block takes k
-- positions, after the blocks of those before it; total is P
unfoldable pub shelf_fault : ℕ → ℕ → ℕ → List ℕ → ℕ
shelf_fault k total films blocks =
    first (fault_of Films 0 films)
    (first (cond (zeros films blocks) 0 wrong_films) (row_fault (blocks_fault k total) ◌+◌ films 0 0 blocks))

-- the films' figures: the shelf, B, c, then the table
unfoldable pub film_fault : ℕ → Figures → ℕ → ℕ
film_fault k f total =
    first (shelf_fault k total f.films f.blocks)
    (first (fault_of Measure max_bytes f.bytes)
    (first (fault_of Measure max_rate f.rate) (table_fault f.kind f.table)))

-- `left` more zones from the i-th on; total is the positions so far, before the time of the zone before
unfoldable pub zone_faults : ℕ → ℕ → ℕ → Figures → ℕ → ℕ → ℕ
zone_faults k zero i f total before = film_fault k f total
zone_faults k (suc left) i f total before =
    first (fault_of Positions total (get_or f.positions i 0))
    (first (time_fault (get_or f.times 0 0) before (get_or f.times i 0))
    (zone_faults k left (i + 1) f (total + get_or f.positions i 0) (get_or f.times i 0)))

-- the fault of figures whose zones are judged: that of a zone, or of the films, given P
unfoldable pub fault_with : ℕ → Figures → Result ℕ Refusal → ℕ
fault_with k f (Err r) = number_of r
fault_with k f (Ok total) = film_fault k f total

-- positions and times are zero from the i-th on
unfoldable pub zeros_from : ℕ → List ℕ → List ℕ → Bool
zeros_from i ps ts = zeros i ps && zeros i ts

-- a record's unused zones are zero (K7)
unfoldable pub unused_zero : Figures → Bool
unused_zero f = zeros_from f.zones f.positions f.times

-- the refusal of a record, 0 where it is legal
unfoldable pub record_fault : ℕ → Figures → ℕ
record_fault k f =
    first (fault_of Kind 0 f.kind)
    (first (fault_of Zones 0 f.zones)
    (first (cond (unused_zero f) 0 wrong_zones) (zone_faults k f.zones 0 f 0 max_time)))

-- records answer with offset 0
unfoldable pub judge_record : ℕ → Figures → Verdict
judge_record k f = record { number = record_fault k f; place = 0 }

-- ---- the card of figures

-- B, c and the overheads
abbrev pub measure_numbers : Figures → List ℕ
measure_numbers f = f.bytes ∷ f.rate ∷ table_numbers f.kind f.table

-- the films' numbers: how many there are, N of each, then these
unfoldable pub film_numbers : Figures → List ℕ
film_numbers f = f.films ∷ row_numbers f.films 0 f.blocks (measure_numbers f)

-- `left` zones from the i-th on, each its positions and its time, then the films
unfoldable pub zone_numbers : ℕ → ℕ → Figures → List ℕ
zone_numbers zero i f = film_numbers f
zone_numbers (suc left) i f = get_or f.positions i 0 ∷ get_or f.times i 0 ∷ zone_numbers left (i + 1) f

-- the numbers of a card, in order: kind, zones, each zone, the films
unfoldable pub numbers_of : Figures → List ℕ
numbers_of f = f.kind ∷ f.zones ∷ zone_numbers f.zones 0 f

-- numbers as bytes, one after the other
unfoldable pub bytes_of : List ℕ → List ℕ
bytes_of [] = []
bytes_of (v ∷ vs) = groups v ++ bytes_of vs

-- the card of figures
unfoldable pub card_of : Figures → List ℕ
card_of f = bytes_of (numbers_of f)

-- ---- the writer (K9): of cards whose blocks take one position each

unfoldable pub write_fault : Figures → ℕ → ℕ
write_fault f room = first (record_fault 1 f) (cond (leb (length (card_of f)) room) 0 too_short)

-- a refusal answers offset 0 and length 0
abbrev pub not_written : ℕ → CardWritten
not_written k = record { verdict = record { number = k; place = 0 }; length = 0 }

-- the length is the card's
abbrev pub written_by : ℕ → Figures → CardWritten
written_by zero f = record { verdict = record { number = 0; place = 0 }; length = length (card_of f) }
written_by (suc k) f = not_written (suc k)

unfoldable pub written_card : Figures → List ℕ → CardWritten
written_card f out = written_by (write_fault f (length out)) f

-- the buffer: the card, and what stood past it; a refusal leaves it
abbrev pub buffer_by : ℕ → Figures → List ℕ → List ℕ
buffer_by zero f out = card_of f ++ drop (length (card_of f)) out
buffer_by (suc k) f out = out

unfoldable pub buffer_after : Figures → List ℕ → List ℕ
buffer_after f out = buffer_by (write_fault f (length out)) f out
