-- The figures of a card in their order, and the rules of each in theirs: document 01's tables of ranges and of refusals, with document 02's
-- tickets 3, 8, 11 and 14. A card and a record go by the same rules.
use Rattle.std.specs.Prelude.{ℕ, zero, suc, ◌+◌, ◌*◌, ◌-◌, ◌≤◌, ◌≡◌, ◌⊎◌, List, [], ◌∷◌, ◌++◌, cond, eqb}
use Rattle.laws.specs.Starts.{start_of}
use Rattle.numbers.specs.Limits.{straight_kind, measured_kind, max_zones, max_positions, max_time, times_as_fast, min_blocks, max_blocks, max_films}
use Rattle.numbers.specs.Limits.{max_bytes, max_rate, max_move, table_length, max_overhead}
use Rattle.numbers.specs.Refusals.{wrong_kind, wrong_zones, wrong_positions, wrong_time, rising_time}
use Rattle.numbers.specs.Refusals.{wrong_blocks, wrong_measure, wrong_overhead, half_dead_time, wrong_films}
use Rattle.card_field.specs.Ranges.{room_fault}

-- ---- the figures in their order (K3; T3.1, T14)

-- zones are counted from 0, and so are the films and the entries of the table
pub data Figure : Type 0 where
  Kind Zones : Figure
  Positions Time : ℕ → Figure
  Films : Figure
  Blocks : ℕ → Figure
  Bytes Rate Hop Return : Figure
  Overhead : ℕ → Figure

-- `left` zones from the i-th on, innermost first
unfoldable pub zone_figures : ℕ → ℕ → List Figure
zone_figures zero i = []
zone_figures (suc left) i = Positions i ∷ Time i ∷ zone_figures left (suc i)

-- `left` films from the i-th on
unfoldable pub length_figures : ℕ → ℕ → List Figure
length_figures zero i = []
length_figures (suc left) i = Blocks i ∷ length_figures left (suc i)

-- `left` entries of the table from the j-th on
unfoldable pub entry_figures : ℕ → ℕ → List Figure
entry_figures zero j = []
entry_figures (suc left) j = Overhead j ∷ entry_figures left (suc j)

-- hop and return of kind 1, the whole table of kind 2
unfoldable pub overhead_figures : ℕ → List Figure
overhead_figures kind = cond (eqb kind straight_kind) (Hop ∷ Return ∷ []) (entry_figures table_length 0)

-- the films, B, c and the overheads
unfoldable pub film_figures : ℕ → ℕ → List Figure
film_figures kind films = Films ∷ (length_figures films 0 ++ (Bytes ∷ Rate ∷ overhead_figures kind))

unfoldable pub figures_in_order : ℕ → ℕ → ℕ → List Figure
figures_in_order kind zones films = Kind ∷ Zones ∷ (zone_figures zones 0 ++ film_figures kind films)

-- ---- rules in a row

-- a fact that is asked for, and the refusal where it does not hold
pub record Rule : Type 1 where
  pub refusal : ℕ
  pub fact : Type 0

infix 70 ◌unless◌
abbrev pub ◌unless◌ : ℕ → Type 0 → Rule
k unless P = record { refusal = k; fact = P }

abbrev pub Holds : List Rule → Type 0
Holds [] = Unit {0}
Holds (r ∷ rs) = r.fact × Holds rs

-- k is the refusal of the first rule that does not hold
abbrev pub Breaks : List Rule → ℕ → Type 0
Breaks [] k = ⊥
Breaks (r ∷ rs) k = ((k ≡ r.refusal) × (r.fact → ⊥)) ⊎ (r.fact × Breaks rs k)

-- ---- the rules of each figure (K4, R3 to R10; T3.7, T8.3, T11, T14)

abbrev pub Values : Type 0
Values = Figure → ℕ

abbrev pub Within : ℕ → ℕ → ℕ → Type 0
Within least most x = (least ≤ x) × (x ≤ most)

-- the positions of the first n zones together
unfoldable pub positions_of : Values → ℕ → ℕ
positions_of v zero = 0
positions_of v (suc n) = positions_of v n + v (Positions n)

-- the blocks of the films before the i-th
abbrev pub blocks_before : Values → ℕ → ℕ
blocks_before v i = start_of (λ j. v (Blocks j)) i

-- the positions that they leave free, each block on so many
abbrev pub free_after : ℕ → Values → ℕ → ℕ
free_after visits v i = positions_of v (v Zones) - visits * blocks_before v i

-- each block takes so many positions: one, or two for half blocks, which are 28 in place of 9
unfoldable pub rules : ℕ → Values → Figure → List Rule
rules visits v Kind = wrong_kind unless ((v Kind ≡ straight_kind) ⊎ (v Kind ≡ measured_kind)) ∷ []
rules visits v Zones = wrong_zones unless Within 1 max_zones (v Zones) ∷ []
rules visits v (Positions i) = wrong_positions unless (1 ≤ v (Positions i)) ∷ wrong_positions unless (positions_of v (suc i) ≤ max_positions) ∷ []
rules visits v (Time zero) = wrong_time unless Within 1 max_time (v (Time 0)) ∷ []
rules visits v (Time (suc i)) =
    wrong_time unless Within 1 max_time (v (Time (suc i)))
    ∷ rising_time unless (v (Time (suc i)) ≤ v (Time i))
    ∷ half_dead_time unless (v (Time 0) ≤ times_as_fast * v (Time (suc i)))
    ∷ []
rules visits v Films = wrong_films unless Within 1 max_films (v Films) ∷ []
rules visits v (Blocks i) =
    wrong_blocks unless Within min_blocks max_blocks (v (Blocks i))
    ∷ wrong_films unless (blocks_before v i + v (Blocks i) ≤ max_blocks)
    ∷ room_fault visits unless (visits * v (Blocks i) ≤ free_after visits v i)
    ∷ []
rules visits v Bytes = wrong_measure unless Within 1 max_bytes (v Bytes) ∷ []
rules visits v Rate = wrong_measure unless Within 1 max_rate (v Rate) ∷ []
rules visits v Hop = wrong_measure unless Within 1 max_move (v Hop) ∷ []
rules visits v Return = wrong_measure unless Within 1 max_move (v Return) ∷ []
rules visits v (Overhead zero) = wrong_overhead unless Within 1 max_overhead (v (Overhead 0)) ∷ []
rules visits v (Overhead (suc j)) =
    wrong_overhead unless Within 1 max_overhead (v (Overhead (suc j)))
    ∷ wrong_overhead unless (v (Overhead j) ≤ v (Overhead (suc j)))
    ∷ []
