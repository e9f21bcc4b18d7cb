-- Rows of numbers one after the other: row i has N i numbers, and begins behind those before it.
-- Assumes nothing.
use Rattle.std.specs.Prelude.{ℕ, zero, suc, ◌+◌, ◌≤◌, ◌≡◌}
use Rattle.std.proofs.Common.{ap, arith}
use Rattle.std.proofs.Math.Logic.{by_cases}
use Rattle.std.proofs.Math.Decide.{dec_le}

-- the numbers of the rows before row i
unfoldable pub start_of : (ℕ → ℕ) → ℕ → ℕ
start_of N zero = 0
start_of N (suc i) = start_of N i + N i

pub start_none : (N : ℕ → ℕ) → start_of N 0 ≡ 0
unfolding start_of
start_none N = omega arith

pub start_next : (N : ℕ → ℕ) (i : ℕ) → start_of N (suc i) ≡ start_of N i + N i
unfolding start_of
start_next N i = omega arith

pub start_rises : (N : ℕ → ℕ) (i j : ℕ) → i ≤ j → start_of N i ≤ start_of N j
start_rises N i zero h = let e : i ≡ 0 = omega arith in omega (arith, ap (start_of N) e)
start_rises N i (suc j) h = by_cases (dec_le i j)
    (λ l. omega (arith, start_rises N i j l, start_next N j))
    (λ l. let e : i ≡ suc j = omega arith in omega (arith, ap (start_of N) e))
