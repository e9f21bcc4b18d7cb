-- The table of overheads (document 02, ticket 3): its entry k is the overhead of a sweep of k blocks.
use Rattle.std.specs.Prelude.{ℕ, zero, suc, ◌+◌, ◌-◌, ◌*◌, ◌≤◌, ◌<◌, ◌≡◌, List, [], ◌∷◌, Bool, true, cond, ◌&&◌, get_or, eqb}
use Rattle.numbers.specs.Limits.{straight_kind, max_move, table_length, max_overhead}
use Rattle.numbers.specs.Refusals.{wrong_measure}
use Rattle.card_field.specs.declared.Rule.TheVariants.{Measure, Overhead}
use Rattle.card_field.specs.Ranges.{first, fault_of}
use Rattle.card_field.specs.Row.{row_fault}

-- ---- kind 1: hop times the number of blocks, plus return (T3.3)

-- `left` entries from the k-th on
unfoldable pub straight_from : ℕ → ℕ → ℕ → ℕ → List ℕ
straight_from zero k hop back = []
straight_from (suc left) k hop back = (hop * k + back) ∷ straight_from left (k + 1) hop back

unfoldable pub straight : ℕ → ℕ → List ℕ
straight hop back = straight_from table_length 0 hop back

-- return is the overhead of no block, and hop what the first block adds
abbrev pub back_in : List ℕ → ℕ
back_in table = get_or table 0 0

abbrev pub hop_in : List ℕ → ℕ
hop_in table = get_or table 1 0 - get_or table 0 0

-- whether `left` entries from the k-th on are those of a hop and a return
unfoldable pub is_line : ℕ → ℕ → List ℕ → ℕ → ℕ → Bool
is_line zero k table hop back = true
is_line (suc left) k table hop back = eqb (get_or table k 0) (hop * k + back) && is_line left (k + 1) table hop back

-- ---- legal tables, as plain facts

-- the overheads of kind 1 come from a hop and a return in range (T3.3, T3.6)
pub record Straight (table : List ℕ) : Type 0 where
  pub hop : ℕ
  pub back : ℕ
  pub hops : (1 ≤ hop) × (hop ≤ max_move)
  pub backs : (1 ≤ back) × (back ≤ max_move)
  pub same : table ≡ straight hop back

-- the overheads of kind 2 are each in range, and none is below the one before (T3.2)
pub record Measured (table : List ℕ) : Type 0 where
  pub range : (k : ℕ) → k < table_length → (1 ≤ get_or table k 0) × (get_or table k 0 ≤ max_overhead)
  pub rising : (k : ℕ) → suc k < table_length → get_or table k 0 ≤ get_or table (suc k) 0

-- ---- the judge of a table: 10 of kind 1, 25 of kind 2

-- a table of kind 1: its hop, its return, then each of its entries (T3.6)
unfoldable pub straight_fault : List ℕ → ℕ
straight_fault table =
    first (fault_of Measure max_move (hop_in table))
    (first (fault_of Measure max_move (back_in table))
    (cond (is_line table_length 0 table (hop_in table) (back_in table)) 0 wrong_measure))

-- what an entry of kind 2 leaves for the next one to be judged by: itself
abbrev pub last_entry : ℕ → ℕ → ℕ
last_entry before v = v

-- a table of kind 2: each of its entries, beside the one before it; the first has none (T3.7)
unfoldable pub measured_fault : List ℕ → ℕ
measured_fault table = row_fault (fault_of Overhead) last_entry table_length 0 0 table

-- the table of a record, by its kind
unfoldable pub table_fault : ℕ → List ℕ → ℕ
table_fault kind table = cond (eqb kind straight_kind) (straight_fault table) (measured_fault table)

-- ---- the numbers of a card

-- the overheads: hop and return of kind 1, the whole table of kind 2 (T3.1)
unfoldable pub table_numbers : ℕ → List ℕ → List ℕ
table_numbers kind table = cond (eqb kind straight_kind) (hop_in table ∷ back_in table ∷ []) table
