-- Document 02, ticket 14: films on one disk, laid in list order, each on the highest positions still free. N i is how many blocks film i has.
-- Assumes nothing.
use Rattle.std.specs.Prelude.{ℕ, ◌*◌, ◌-◌, ◌≤◌}
use Rattle.std.proofs.Common.{arith}
use Rattle.laws.specs.Starts.{start_of}
use Rattle.placement.specs.Placement.{Falling}
use Rattle.placement.specs.Showing.{Showing, visits_of, laying}

-- the positions that are free for film i
abbrev pub free_for : Showing → ℕ → (ℕ → ℕ) → ℕ → ℕ
free_for x P N i = P - visits_of x * start_of N i

-- the positions of its visits, entry by entry
abbrev pub laying_in : Showing → ℕ → (ℕ → ℕ) → ℕ → ℕ → ℕ
laying_in x P N i = laying x (free_for x P N i) (N i)

-- times that never rise on more positions never rise on fewer
pub falling_less : (P Q : ℕ) (τ : ℕ → ℕ) → Q ≤ P → Falling P τ → Falling Q τ
unfolding Falling
falling_less P Q τ h falls p q l u = falls p q l (omega arith)
