-- Entries of a list from one up to another.
use Rattle.std.specs.Prelude.{ℕ, ◌-◌, ◌≤◌, ◌<◌, ◌≡◌, Bool, List, length, drop}
use Rattle.words.specs.Words.{words_of, with_words}
use Rattle.plan.specs.Plan.{row}
use Rattle.plan.specs.Answer.{begins}

-- the list has these entries
pub record Within (s : List ℕ) (a b : ℕ) : Type 0 where
  pub order : a ≤ b
  pub long : b ≤ length (words_of s)

-- what calls give for the entries from a up to b are the values of g; `gives k v` says that a call for entry k may give v
abbrev pub Gives : (ℕ → ℕ → Type 0) → (ℕ → ℕ) → ℕ → ℕ → Type 0
Gives gives g a b = (k v : ℕ) → a ≤ k → k < b → gives k v → v ≡ g k

-- s with the values of g as its entries from a up to b
abbrev pub written : List ℕ → (ℕ → ℕ) → ℕ → ℕ → List ℕ
written s g a b = with_words s a (row g a (b - a))

-- the entries from a up to b are the values of g
abbrev pub has : (ℕ → ℕ) → List ℕ → ℕ → ℕ → Bool
has g ws a b = begins (row g a (b - a)) (drop a ws)
