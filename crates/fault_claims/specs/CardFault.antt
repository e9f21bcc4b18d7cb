-- A refused card in plain facts (R1 to R11, R22, R24): good figures, and the first fault after them.
use Rattle.std.specs.Prelude.{ℕ, ◌≤◌, ◌<◌, ◌≡◌, ◌⊎◌, List, [], ◌∷◌, ◌++◌, map, length, get_or}
use Rattle.laws.specs.Each.{Each}
use Rattle.numbers.specs.Limits.{no_number}
use Rattle.numbers.specs.Refusals.{card_ends, number_form, card_goes_on}
use Rattle.leb128.specs.Number.{group_weight, most_groups, groups}
use Rattle.card.specs.Card.{bytes_of}
use Rattle.fault_claims.specs.Rules.{Figure, Kind, Zones, Films, figures_in_order, Holds, Breaks, Values, rules}

-- ---- what the bytes left start with

-- a number of 32 bits in its shortest form
abbrev pub StartsWith : List ℕ → ℕ → Type 0
StartsWith left n = (n < no_number) × (rest : List ℕ) × (left ≡ groups n ++ rest)

-- no number, as they end too early: there are none, or fewer than five, which all continue
abbrev pub CutShort : List ℕ → Type 0
CutShort left = (length left < most_groups) × ((i : ℕ) → i < length left → group_weight ≤ get_or left i 0)

-- neither: not the shortest form, over five bytes, or above 4,294,967,295
abbrev pub WrongForm : List ℕ → Type 0
WrongForm left = ((n : ℕ) → StartsWith left n → ⊥) × (CutShort left → ⊥)

-- ---- the fault

-- the fault in the bytes left, which start at an offset of a card of so many bytes: where no figure is to come, that there are any; else
-- that of the next figure, its form before its rules
abbrev pub FaultIn : ℕ → Values → List Figure → List ℕ → ℕ → ℕ → ℕ → ℕ → Type 0
FaultIn visits v [] left start size k at = (k ≡ card_goes_on) × (at ≡ start) × (left ≡ [] → ⊥)
FaultIn visits v (g ∷ gs) left start size k at =
    ((k ≡ card_ends) × (at ≡ size) × CutShort left)
    ⊎ (((k ≡ number_form) × (at ≡ start) × WrongForm left) ⊎ ((at ≡ start) × StartsWith left (v g) × Breaks (rules visits v g) k))

-- WHY A CARD IS REFUSED, each block on so many positions, by number and offset: it starts with figures that are good, and the fault is after them
pub record CardFault (visits : ℕ) (s : List ℕ) (k at : ℕ) : Type 0 where
  -- of each figure; those past the next one say nothing
  pub values : Values
  pub before : List Figure
  pub after : List Figure
  pub left : List ℕ
  pub order : figures_in_order (values Kind) (values Zones) (values Films) ≡ before ++ after
  pub bytes : s ≡ bytes_of (map values before) ++ left
  pub good : Each (λ g. Holds (rules visits values g)) before
  pub fault : FaultIn visits values after left (length (bytes_of (map values before))) (length s) k at
