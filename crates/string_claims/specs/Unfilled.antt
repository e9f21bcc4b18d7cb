-- What stays of a lent string.
use Rattle.std.specs.Prelude.{ℕ, ◌≤◌, ◌≡◌, List, length, get_or}

-- t is as long as s, and the same from byte m on
abbrev pub SameFrom : ℕ → List ℕ → List ℕ → Type 0
SameFrom m s t = (length t ≡ length s) × ((j : ℕ) → m ≤ j → get_or t j 0 ≡ get_or s j 0)
