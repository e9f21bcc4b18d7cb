-- The numbers that stand in a card one after the other, as values of its figures.
-- Assumes nothing.
use Prim.Native.Nat.{ℕ, zero, suc, ◌+◌, ◌*◌}
use Rattle.std.specs.Prelude.{◌≡◌, List, [], ◌∷◌, ◌++◌, Bool, cond, eqb}
use Rattle.std.proofs.Common.{sym, ◌∙◌}
use Rattle.std.proofs.Math.Path.{ap}
use Rattle.std.proofs.Math.Bool.{true, false}
use native.Mathlib.Omega.{arith}
use Rattle.laws.specs.Each.{EachFrom}
use Rattle.numbers.specs.Limits.{straight_kind, table_length}
use Rattle.leb128.specs.declared.Number.{Number}
use Rattle.leb128.specs.declared.Number.TheVariants.{Value, CutOff, Malformed}
use Rattle.leb128.specs.Number.{number_at}
use Rattle.card_field.specs.Figure.{value_in}
use Rattle.fault_claims.specs.Rules.{Figure, Kind, Zones, Positions, Time, Films, Blocks, Bytes, Rate, Hop, Return, Overhead}
use Rattle.fault_claims.specs.Rules.{zone_figures, length_figures, entry_figures, overhead_figures, film_figures, Values}

-- ---- the n-th number

abbrev next_in : Number → ℕ
next_in (Value v next) = next
next_in (CutOff size) = 0
next_in (Malformed start) = 0

-- the offset of the n-th number, from 0 on
unfoldable pub offset_of : List ℕ → ℕ → ℕ
offset_of s zero = 0
offset_of s (suc n) = next_in (number_at s (offset_of s n))

unfoldable pub number_of : List ℕ → ℕ → ℕ
number_of s n = value_in (number_at s (offset_of s n))

module _ (s : List ℕ) (n at w next : ℕ) (here : at ≡ offset_of s n) (e : number_at s at ≡ Value w next) where
  pub offset_next : next ≡ offset_of s (suc n)
  unfolding offset_of
  offset_next = ap next_in (sym e ∙ ap (number_at s) here)

  pub number_here : w ≡ number_of s n
  unfolding number_of value_in
  number_here = ap value_in (sym e ∙ ap (number_at s) here)

-- ---- the place of each figure among the numbers of a card

-- in a card of z zones and m films
abbrev pub place_of : ℕ → ℕ → Figure → ℕ
place_of z m Kind = 0
place_of z m Zones = 1
place_of z m (Positions i) = 2 + 2 * i
place_of z m (Time i) = 3 + 2 * i
place_of z m Films = 2 + 2 * z
place_of z m (Blocks i) = 3 + 2 * z + i
place_of z m Bytes = 3 + 2 * z + m
place_of z m Rate = 4 + 2 * z + m
place_of z m Hop = 5 + 2 * z + m
place_of z m Return = 6 + 2 * z + m
place_of z m (Overhead j) = 5 + 2 * z + m + j

-- the places of figures in a row, from the n-th on
abbrev pub Counted : ℕ → ℕ → ℕ → List Figure → Type 0
Counted z m n gs = EachFrom (λ k g. place_of z m g ≡ k) n gs

module _ (z m : ℕ) where
  counted_entries : (left j n : ℕ) → n ≡ 5 + 2 * z + m + j → Counted z m n (entry_figures left j)
  unfolding entry_figures
  counted_entries zero j n e = tt
  counted_entries (suc left) j n e = (sym e, counted_entries left (suc j) (suc n) (omega arith))

  counted_overheads : (kind n : ℕ) → n ≡ 5 + 2 * z + m → Counted z m n (overhead_figures kind)
  unfolding overhead_figures
  counted_overheads kind n e = by (eqb kind straight_kind)
    where
      by : (t : Bool) → Counted z m n (cond t (Hop ∷ Return ∷ []) (entry_figures table_length 0))
      by true = (omega arith, (omega arith, tt))
      by false = counted_entries table_length 0 n (omega arith)

  counted_lengths : (left i n kind : ℕ) → i + left ≡ m → n ≡ 3 + 2 * z + i → Counted z m n (length_figures left i ++ (Bytes ∷ Rate ∷ overhead_figures kind))
  unfolding length_figures
  counted_lengths zero i n kind all e = (omega arith, (omega arith, counted_overheads kind (suc (suc n)) (omega arith)))
  counted_lengths (suc left) i n kind all e = (omega arith, counted_lengths left (suc i) (suc n) kind (omega arith) (omega arith))

  pub counted_zones : (left i n kind : ℕ) → i + left ≡ z → n ≡ 2 + 2 * i → Counted z m n (zone_figures left i ++ film_figures kind m)
  unfolding zone_figures film_figures
  counted_zones zero i n kind all e = (omega arith, counted_lengths m 0 (suc n) kind (omega arith) (omega arith))
  counted_zones (suc left) i n kind all e = (omega arith, (omega arith, counted_zones left (suc i) (suc (suc n)) kind (omega arith) (omega arith)))

-- the values of a card's figures, 0 where there is no number
abbrev pub read_values : List ℕ → Values
read_values s g = number_of s (place_of (number_of s 1) (number_of s (2 + 2 * number_of s 1)) g)
