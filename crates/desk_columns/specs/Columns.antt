-- An entry of an array that lies in words.
-- Assumes nothing.
use Rattle.std.specs.Prelude.{ℕ, ◌+◌, ◌<◌, ◌≡◌, List, get_or, take, drop}
use Rattle.std.proofs.Common.{sym, ◌∙◌, get_or-take, get_or-drop}

pub entry_at : (ws : List ℕ) (n k i : ℕ) → i < n → get_or ws (k + i) 0 ≡ get_or (take n (drop k ws)) i 0
entry_at ws n k i l = sym (get_or-take n (drop k ws) i 0 l ∙ get_or-drop k ws i 0)
