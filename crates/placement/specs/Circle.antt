-- Document 02, looped films: the next block on a circle, the laying of a loop, and the worst time over the circle.
-- Assumes nothing.
use Rattle.std.specs.Prelude.{ℕ, suc, ◌+◌, ◌*◌, ◌-◌, ◌%◌, Bool, cond, leb, eqb}
use Rattle.laws.specs.Greatest.{greatest_of}

-- the block after b of N (T7.1): after the last comes the first
unfoldable pub round : ℕ → ℕ → ℕ
round N b = cond (eqb (suc b) N) 0 (suc b)

-- the rank of block b falls as b rises: up to half of the film those of odd blocks do, past it those of blocks an even number before the end
unfoldable pub falls : ℕ → ℕ → Bool
falls N b = cond (leb (2 * b) N) (eqb (b % 2) 1) (eqb ((N - b) % 2) 0)

-- the rank of block b among the film's positions, slowest first (T7.3): 0, N − 1, 1, N − 3, 3 .. 2, N − 2
unfoldable pub rank : ℕ → ℕ → ℕ
rank N b = cond (falls N b) (N - b) (b - 1)

-- the position of block b of a loop of N blocks, which takes the N highest of P positions (T7.3)
unfoldable pub ring : ℕ → ℕ → ℕ → ℕ
ring P N b = P - N + rank N b

-- the worst time of a laying l over the circle (T7.2, T7.4): the greatest sum of two successive blocks, the last and the first among them
unfoldable pub worst_round : (ℕ → ℕ) → (ℕ → ℕ) → ℕ → ℕ
worst_round τ l N = greatest_of (λ b. τ (l b) + τ (l (round N b))) N
