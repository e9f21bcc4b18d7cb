-- The fetch list in bytes: the entries as numbers, one after the other.
-- Assumes nothing.
use Rattle.std.specs.Prelude.{ℕ, zero, suc, ◌≡◌, refl, List, [], ◌∷◌, get_or}
use Rattle.std.proofs.Common.{ap, ◌∙◌}
use Rattle.rules.specs.Scheduler.{Entry}
use Rattle.desk.specs.declared.Fetches.{Fetches}
use Rattle.desk.specs.Desk.{fetches_of, entry_words}
use Rattle.desk.specs.Entries.{entries_from, entries_in, entries_in_law}

-- the fetches of three arrays
abbrev pub list_of : ℕ → List ℕ → List ℕ → List ℕ → Fetches
list_of n ps ss bs = record { count = n; positions = ps; slots = ss; blocks = bs }

-- n entries from the i-th on: position, slot and block of each
unfoldable pub rows : ℕ → ℕ → Fetches → List ℕ
rows i zero f = []
rows i (suc n) f = get_or f.positions i 0 ∷ get_or f.slots i 0 ∷ get_or f.blocks i 0 ∷ rows (suc i) n f

rows_entries : (i n : ℕ) (f : Fetches) → rows i n f ≡ entry_words (entries_from i n f)
unfolding rows entry_words entries_from
rows_entries i zero f = refl
rows_entries i (suc n) f = ap (λ (r : List ℕ). get_or f.positions i 0 ∷ get_or f.slots i 0 ∷ get_or f.blocks i 0 ∷ r) (rows_entries (suc i) n f)

-- the rows of the fetches that the rules gave
pub rows_of : (es : List Entry) → rows 0 (fetches_of es).count (fetches_of es) ≡ entry_words es
rows_of es = rows_entries 0 (fetches_of es).count (fetches_of es) ∙ ap entry_words (unfold entries_in in entries_in_law es)
