-- One figure of a card: its form, then its range (R22).
use Rattle.std.specs.Prelude.{ℕ, zero, suc, List, Result, Ok, Err}
use Rattle.numbers.specs.Refusals.{card_ends, number_form}
use Rattle.numbers.specs.declared.refusals.Refused as placed
use Rattle.numbers.specs.Numbered.{number_of}
use Rattle.leb128.specs.declared.Number.{Number}
use Rattle.leb128.specs.declared.Number.TheVariants as number
use Rattle.leb128.specs.Number.{number_at}

-- a figure that is read: its value with the offset after it, or the number of its refusal with its place
pub data Field : Type 0 where
  Value Refused : ℕ → ℕ → Field

-- the answer of the code, over numbers
abbrev pub field_in : Result (ℕ × ℕ) placed.Refused → Field
field_in (Ok p) = Value p.0 p.1
field_in (Err e) = Refused (number_of e.refusal) e.place

-- the value of a number, 0 where there is none
unfoldable pub value_in : Number → ℕ
value_in (number.Value v next) = v
value_in (number.CutOff size) = 0
value_in (number.Malformed start) = 0

-- a value in range, or the refusal at the number's offset
unfoldable pub on_fault : ℕ → ℕ → ℕ → ℕ → Field
on_fault zero at v next = Value v next
on_fault (suc k) at v next = Refused (suc k) at

-- number and place of each answer (R1, R2): the card's length where it ends too early, the number's offset where its form is wrong
unfoldable pub on_number : (ℕ → ℕ) → ℕ → Number → Field
on_number judge at (number.Value v next) = on_fault (judge v) at v next
on_number judge at (number.CutOff size) = Refused card_ends size
on_number judge at (number.Malformed start) = Refused number_form start

-- the figure at an offset of the card s, with the refusal of each value
unfoldable pub field_at : (ℕ → ℕ) → List ℕ → ℕ → Field
field_at judge s at = on_number judge at (number_at s at)
