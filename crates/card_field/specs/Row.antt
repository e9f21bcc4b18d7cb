-- Numbers in a row, each judged by what the ones before it leave.
use Rattle.std.specs.Prelude.{ℕ, zero, suc, ◌+◌, List, ◌∷◌, get_or}
use Rattle.card_field.specs.Ranges.{first}

-- `left` more numbers of a list, from the k-th on: judge has the refusal of each, beside what is left by those before it; after is what
-- it leaves itself
unfoldable pub row_fault : {A : Type 0} → (A → ℕ → ℕ) → (A → ℕ → A) → ℕ → A → ℕ → List ℕ → ℕ
row_fault judge after zero x k vs = 0
row_fault judge after (suc left) x k vs = first (judge x (get_or vs k 0)) (row_fault judge after left (after x (get_or vs k 0)) (k + 1) vs)

-- `left` numbers of a list from the k-th on, and the rest after them
unfoldable pub row_numbers : ℕ → ℕ → List ℕ → List ℕ → List ℕ
row_numbers zero k vs rest = rest
row_numbers (suc left) k vs rest = get_or vs k 0 ∷ row_numbers left (k + 1) vs rest
