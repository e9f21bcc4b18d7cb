-- The places of slots as numbers, and the line of those that ask.
-- Assumes nothing.
use Rattle.std.specs.Prelude.{ℕ, ◌≤◌, ◌<◌, ◌≡◌, List, length, get_or, ltb}
use Rattle.laws.specs.Bools.{bit}
use Rattle.laws.specs.Runs.{sum_by}
use Rattle.numbers.specs.Limits.{max_streams}

-- one where a place is taken
abbrev pub taken : ℕ → ℕ
taken x = bit (ltb 0 x)

-- how many are
unfoldable pub asking : List ℕ → ℕ
asking qs = sum_by taken qs

-- the places of 256 slots, of which those from n on do not ask: 1 up to the number of requests, each once
pub record Queued (qs : List ℕ) (n : ℕ) : Type 0 where
  pub long : length qs ≡ max_streams
  pub unused : (i : ℕ) → n ≤ i → get_or qs i 0 ≡ 0
  pub low : (i : ℕ) → get_or qs i 0 ≤ asking qs
  pub apart : (i j : ℕ) → 0 < get_or qs i 0 → get_or qs i 0 ≡ get_or qs j 0 → i ≡ j

-- those that ask, in their order: line has the slot at each place, from 1 on
pub record Lined (qs line : List ℕ) (count : ℕ) : Type 0 where
  pub all : (i : ℕ) → get_or qs i 0 ≤ count
  pub few : count ≤ max_streams
  pub slot : (k : ℕ) → 0 < k → k ≤ count → get_or qs (get_or line k 0) 0 ≡ k
