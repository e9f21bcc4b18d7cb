-- The positions of a loop as the code writes them, run by run.
use Rattle.std.specs.Prelude.{ℕ, ◌+◌, ◌-◌, ◌≤◌}
use Rattle.numbers.specs.Limits.{max_positions}
use Rattle.walk.specs.Walk.{side_of}

-- the position of block b of N on the N highest of P positions where, as blocks rise, those of one parity fall: of odd blocks if o is 1, of
-- even ones if it is 0
abbrev pub turn_of : ℕ → ℕ → ℕ → ℕ → ℕ
turn_of P N o b = side_of (P - b) (P - N + b - 1) (b + o)

-- a run of blocks from a up to b, without block 0
pub record Turns (P N a b o : ℕ) : Type 0 where
  pub some : 1 ≤ a
  pub within : b ≤ N
  pub room : N ≤ P
  pub small : P ≤ max_positions
  pub parity : o ≤ 1
