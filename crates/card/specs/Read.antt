-- The reader of a card (K6): number by number, form before range (R22), and the first fault ends it.
use Rattle.std.specs.Prelude.{ℕ, zero, suc, ◌+◌, List, cond, length, get_or, set, replicate, ltb, eqb}
use Rattle.numbers.specs.Refusals.{card_goes_on}
use Rattle.numbers.specs.Limits.{straight_kind, max_zones, max_time, max_films, max_bytes, max_rate, max_move, table_length}
use Rattle.card.specs.declared.Figures.{Figures}
use Rattle.card.specs.declared.Scalars.{Scalars}
use Rattle.card.specs.declared.Verdict.{Verdict}
use Rattle.card.specs.declared.CardRead.{CardRead}
use Rattle.card_field.specs.declared.Rule.TheVariants.{Kind, Zones, Positions, Films, Measure, Overhead}
use Rattle.card_field.specs.Ranges.{fault_of, time_fault, blocks_fault}
use Rattle.card_field.specs.Figure.{Field, Value, Refused, field_at}
use Rattle.card_table.specs.Table.{straight, last_entry}

-- ---- the answer

-- the entries of a record's arrays, all zero
unfoldable pub blank_zones : List ℕ
blank_zones = replicate max_zones 0

unfoldable pub blank_films : List ℕ
blank_films = replicate max_films 0

unfoldable pub blank_table : List ℕ
blank_table = replicate table_length 0

-- figures that are all zero
unfoldable pub blank_figures : Figures
blank_figures = record {
  kind = 0;
  zones = 0;
  positions = blank_zones;
  times = blank_zones;
  films = 0;
  blocks = blank_films;
  bytes = 0;
  rate = 0;
  table = blank_table;
}

abbrev pub accepted : Verdict
accepted = record { number = 0; place = 0 }

unfoldable pub refused_card : ℕ → ℕ → CardRead
refused_card k at = record { verdict = record { number = k; place = at }; figures = blank_figures }

-- a refused figure ends the card; after another, go goes on with its value and the offset after it
unfoldable pub then_field : Field → (ℕ → ℕ → CardRead) → CardRead
then_field (Refused k at) go = refused_card k at
then_field (Value v next) go = go v next

-- figures of the single numbers and the shelf, of the positions and times of the zones, and of the table of overheads
abbrev pub figures_from : Scalars → List ℕ → List ℕ → List ℕ → Figures
figures_from s ps ts os = record {
  kind = s.kind;
  zones = s.zones;
  positions = ps;
  times = ts;
  films = s.films;
  blocks = s.blocks;
  bytes = s.bytes;
  rate = s.rate;
  table = os;
}

-- after the last figure no byte is left over (R11)
unfoldable pub card_end : List ℕ → ℕ → Figures → CardRead
card_end s at f = cond (ltb at (length s)) (refused_card card_goes_on at) (record { verdict = accepted; figures = f })

-- ---- the figures from an offset on, part by part; go goes on with the values of a part and the offset after it

-- `left` more numbers in a row into a list, from its k-th entry on: each is judged beside what those before it leave, as `row_fault` does
unfoldable pub row_from : {A : Type 0} → (A → ℕ → ℕ) → (A → ℕ → A) → ℕ → List ℕ → ℕ → A → ℕ → List ℕ → (List ℕ → ℕ → CardRead) → CardRead
row_from judge after zero s at x k vs go = go vs at
row_from judge after (suc left) s at x k vs go =
    then_field (field_at (judge x) s at) (λ v at₁.
    row_from judge after left s at₁ (after x v) (k + 1) (set vs k v) go)

-- the overheads of kind 1: hop and return, which make the table (T3.3)
unfoldable pub moves_from : List ℕ → ℕ → (List ℕ → ℕ → CardRead) → CardRead
moves_from s at go =
    then_field (field_at (fault_of Measure max_move) s at) (λ hop at₁.
    then_field (field_at (fault_of Measure max_move) s at₁) (λ back at₂.
    go (straight hop back) at₂))

-- those of kind 2: the whole table, each entry beside the one before it; the first has none (T3.1, T3.7)
unfoldable pub entries_from : List ℕ → ℕ → (List ℕ → ℕ → CardRead) → CardRead
entries_from s at go = row_from (fault_of Overhead) last_entry table_length s at 0 0 blank_table go

-- by the kind of the card
unfoldable pub table_from : ℕ → List ℕ → ℕ → (List ℕ → ℕ → CardRead) → CardRead
table_from kind s at go = cond (eqb kind straight_kind) (moves_from s at go) (entries_from s at go)

-- the shelf (document 02, ticket 14): the number of films, then N of each, of which each block takes k positions; total is P
unfoldable pub shelf_from : ℕ → List ℕ → ℕ → ℕ → (ℕ → List ℕ → ℕ → CardRead) → CardRead
shelf_from k s at total go =
    then_field (field_at (fault_of Films 0) s at) (λ films at₁.
    row_from (blocks_fault k total) ◌+◌ films s at₁ 0 0 blank_films (go films))

-- the films' figures: the shelf, B, c
unfoldable pub film_from : ℕ → List ℕ → ℕ → ℕ → (ℕ → List ℕ → ℕ → ℕ → ℕ → CardRead) → CardRead
film_from k s at total go =
    shelf_from k s at total (λ films ns at₁.
    then_field (field_at (fault_of Measure max_bytes) s at₁) (λ b at₂.
    then_field (field_at (fault_of Measure max_rate) s at₂) (λ c at₃.
    go films ns b c at₃)))

-- `left` more zones into their positions and times, from the i-th entry on; total is the positions so far, before the time of the zone
-- before. The first zone's time is 0 while it is read, and no time is judged by it then
unfoldable pub zones_from : ℕ → List ℕ → ℕ → ℕ → List ℕ → List ℕ → ℕ → ℕ → (List ℕ → List ℕ → ℕ → ℕ → CardRead) → CardRead
zones_from zero s at i ps ts total before go = go ps ts total at
zones_from (suc left) s at i ps ts total before go =
    then_field (field_at (fault_of Positions total) s at) (λ p at₁.
    then_field (field_at (time_fault (get_or ts 0 0) before) s at₁) (λ t at₂.
    zones_from left s at₂ (i + 1) (set ps i p) (set ts i t) (total + p) t go))

-- ---- the card (K3): kind, zones, each zone, the films, the overheads, and no byte more

-- after the zones; total is P
abbrev pub after_zones : ℕ → List ℕ → ℕ → ℕ → List ℕ → List ℕ → ℕ → ℕ → CardRead
after_zones k s kind z ps ts total at =
    film_from k s at total (λ films ns b c at₁.
    table_from kind s at₁ (λ os at₂.
    card_end s at₂ (figures_from (record { kind = kind; zones = z; films = films; blocks = ns; bytes = b; rate = c }) ps ts os)))

-- each block takes k positions; the first zone's time is bounded by the greatest time alone
unfoldable pub read_card : ℕ → List ℕ → CardRead
read_card k s =
    then_field (field_at (fault_of Kind 0) s 0) (λ kind at₁.
    then_field (field_at (fault_of Zones 0) s at₁) (λ z at₂.
    zones_from z s at₂ 0 blank_zones blank_zones 0 max_time (after_zones k s kind z)))
