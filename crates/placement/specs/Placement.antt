-- Laying the film: where a block lies (P1), what a laying is and its worst time (P10).
-- Assumes nothing.
use Rattle.std.specs.Prelude.{ℕ, suc, ◌+◌, ◌*◌, ◌-◌, ◌/◌, ◌%◌, ◌≤◌, ◌<◌, ◌≡◌, cond, eqb}
use Rattle.std.proofs.Common.{arith, eq-eqb, ne_eqb}
use Rattle.laws.specs.Greatest.{greatest_of}

-- the position of block b (P1): of the N highest of P positions, even blocks take the lower half from below, odd ones the upper half from above
unfoldable pub zigzag : ℕ → ℕ → ℕ → ℕ
zigzag P N b = cond (eqb (b % 2) 0) (P - N + b / 2) (P - 1 - b / 2)

-- P1 as document 01 puts it, for block 2i
pub zigzag_even : (P N i : ℕ) → zigzag P N (2 * i) ≡ P - N + i
unfolding zigzag
zigzag_even P N i = rw (eq-eqb (2 * i % 2) 0 (omega arith)) (omega arith)

-- and for block 2i+1
pub zigzag_odd : (P N i : ℕ) → zigzag P N (2 * i + 1) ≡ P - 1 - i
unfolding zigzag
zigzag_odd P N i = rw (ne_eqb ((2 * i + 1) % 2) 0 (omega arith)) (omega arith)

-- a laying (P10): the blocks lie among the P positions, no two on one
pub record Laying (P N : ℕ) (l : ℕ → ℕ) : Type 0 where
  pub into : (b : ℕ) → b < N → l b < P
  pub apart : (a b : ℕ) → a < N → b < N → l a ≡ l b → a ≡ b

-- the time τ of a position never rises with the position, as zone times never rise (K4)
unfoldable pub Falling : ℕ → (ℕ → ℕ) → Type 0
Falling P τ = (p q : ℕ) → p ≤ q → q < P → τ q ≤ τ p

-- the worst time of a laying l (P10), τ being the time of a position: of two successive blocks the most. Of document 01's laying it is worst2 (P3)
unfoldable pub worst_time : (ℕ → ℕ) → (ℕ → ℕ) → ℕ → ℕ
worst_time τ l N = greatest_of (λ b. τ (l b) + τ (l (suc b))) (N - 1)
