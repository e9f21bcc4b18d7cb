-- Bytes that are put into a string, or only counted.
use Rattle.std.specs.Prelude.{ℕ, ◌+◌, ◌≤◌, ◌≡◌, Bool, true, cond, List, length}
use Rattle.laws.specs.Overwrite.{overwrite}
use Rattle.numbers.specs.Limits.{max_number}

-- the string x after bytes are put from an offset on; where they are counted alone it stays
abbrev pub put : Bool → List ℕ → ℕ → List ℕ → List ℕ
put write x at bytes = cond write (overwrite x at bytes) x

-- they are few enough to be counted, and where they are written there is room for them
pub record Room (write : Bool) (x : List ℕ) (at : ℕ) (bytes : List ℕ) : Type 0 where
  pub counted : at + length bytes ≤ max_number
  pub written : write ≡ true → at + length bytes ≤ length x

-- the offset after them, and the string y that they leave
pub record Puts (write : Bool) (x : List ℕ) (at : ℕ) (bytes : List ℕ) (next : ℕ) (y : List ℕ) : Type 0 where
  pub end : next ≡ at + length bytes
  pub string : y ≡ put write x at bytes
