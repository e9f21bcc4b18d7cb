-- Leads and streams are the greatest of their kind, the worst pair the earliest, and no other number is; and where 12 is answered.
-- Assumes nothing.
use Prim.Native.Nat.{ℕ, zero, suc, ◌+◌, ◌≤◌}
use Rattle.std.proofs.Math.Path.{◌≡◌}
use Rattle.std.specs.Prelude.{List}
use Rattle.std.proofs.Math.Bool.{true}
use native.Mathlib.Omega.{arith}
use Rattle.std.proofs.Math.Dec.{ltb}
use borrow.Author.Tests.{ltb-true}
use Rattle.laws.specs.Bools.{and_left, and_right}
use Rattle.placement.specs.Showing.{Showing, one, loop, pairs}
use Rattle.pacing.specs.Film.{row, longest_run, shown}
use Rattle.pacing.specs.Shown.{once_in, loop_in}
use Rattle.plan.specs.Greatest.{IsRun, Starts}

module _ (N : ℕ) (time position : ℕ → ℕ) (others : ℕ → List ℕ) where
  -- a run stays within the film
  once_out : (j b : ℕ) → b ≤ N → row (shown one N time position others) j b ≡ true → b + j ≤ N
  unfolding row
  once_out zero b h e = omega arith
  once_out (suc j) b h e =
      let u = ltb-true b N (and_left (ltb b N) _ e) in
      omega (arith, once_out j (suc b) (omega arith) (and_right (ltb b N) _ e))

-- the runs that a lead looks at are those of document 01 and document 02
pub run_in : (x : Showing) (N : ℕ) (time position : ℕ → ℕ) (others : ℕ → List ℕ) (j b : ℕ) → Starts x N b → IsRun x N b j
    → (j ≤ longest_run x N b) × (row (shown x N time position others) j b ≡ true)
run_in one N time position others j b h u = (omega arith, once_in N time position others j b u)
run_in pairs N time position others j b h u = (omega arith, once_in N time position others j b u)
run_in loop N time position others j b h u = (u, loop_in N time position others j b h)

pub in_run : (x : Showing) (N : ℕ) (time position : ℕ → ℕ) (others : ℕ → List ℕ) (j b : ℕ) → Starts x N b → j ≤ longest_run x N b
    → row (shown x N time position others) j b ≡ true
    → IsRun x N b j
in_run one N time position others j b h u r = once_out N time position others j b h r
in_run pairs N time position others j b h u r = once_out N time position others j b h r
in_run loop N time position others j b h u r = u
