-- The position of a block, as the code needs it: in the N highest of P positions, l the position of a block.
use Rattle.std.specs.Prelude.{ℕ, ◌-◌, ◌≤◌, ◌<◌, ◌≡◌}

-- the position of block b
pub record Position (P N : ℕ) (l : ℕ → ℕ) (b q : ℕ) : Type 0 where
  pub is : q ≡ l b
  pub from : P - N ≤ q
  pub to : q < P
