-- Numbers in decimal: how they are read in a text, and how they are written without leading zeros (document 02: T1.4, T1.11).
use Rattle.std.specs.Prelude.{ℕ, zero, suc, ◌+◌, ◌-◌, ◌*◌, ◌/◌, ◌%◌, List, [], ◌∷◌, ◌++◌, Bool, true, false, cond, not, ◌&&◌, Option, Some, None, length, drop, leb, ltb, eqb}
use Rattle.numbers.specs.Limits.{no_number}

-- 0 to 9
unfoldable pub is_digit : ℕ → Bool
is_digit b = leb 48 b && leb b 57

-- ---- how a number is written

-- the last k decimal digits of a number, the most significant first
unfoldable pub digits : ℕ → ℕ → List ℕ
digits zero v = []
digits (suc k) v = digits k (v / 10) ++ ((48 + v % 10) ∷ [])

-- a number without leading zeros, with at most k digits before the last
unfoldable pub decimal_from : ℕ → ℕ → List ℕ
decimal_from zero v = (48 + v) ∷ []
decimal_from (suc k) v = cond (ltb v 10) ((48 + v) ∷ []) (decimal_from k (v / 10) ++ ((48 + v % 10) ∷ []))

-- a number in decimal without leading zeros: 0 is '0'
unfoldable pub decimal : ℕ → List ℕ
decimal v = decimal_from v v

-- ---- how a number is read

-- the digits at the front
unfoldable pub digits_in : List ℕ → List ℕ
digits_in [] = []
digits_in (b ∷ bs) = cond (is_digit b) (b ∷ digits_in bs) []

-- the value of digits that follow others of value v
unfoldable pub value_from : ℕ → List ℕ → ℕ
value_from v [] = v
value_from v (d ∷ ds) = value_from (v * 10 + (d - 48)) ds

-- a number: one digit, or several of which the first is not 0
unfoldable pub is_number : List ℕ → Bool
is_number [] = false
is_number (d ∷ []) = true
is_number (d ∷ (e ∷ ds)) = not (eqb d 48)

-- the number that digits at an offset make, and the offset after it
unfoldable pub number_of : ℕ → List ℕ → Option (ℕ × ℕ)
number_of at ds = cond (is_number ds) (Some (value_from 0 ds, at + length ds)) None

-- THE NUMBER AT AN OFFSET of the text s, of any length, and the offset after it
unfoldable pub number_at : List ℕ → ℕ → Option (ℕ × ℕ)
number_at s at = number_of at (digits_in (drop at s))

-- ---- values of 32 bits

-- a number of 32 bits; 4,294,967,296 stands for every other
unfoldable pub capped : ℕ → ℕ
capped n = cond (ltb n no_number) n no_number

-- the value of a word with a byte more: a digit after the digits before it, or no number
unfoldable pub grown : ℕ → ℕ → ℕ
grown v b = cond (is_digit b) (capped (v * 10 + (b - 48))) no_number

unfoldable pub capped_number : Option (ℕ × ℕ) → Option (ℕ × ℕ)
capped_number (Some (v, next)) = Some (capped v, next)
capped_number None = None

-- the digits at an offset: their value, and the offset after them
unfoldable pub digits_at : List ℕ → ℕ → ℕ × ℕ
digits_at s at = (capped (value_from 0 (digits_in (drop at s))), at + length (digits_in (drop at s)))
