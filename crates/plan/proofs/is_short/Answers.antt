use mathlib.Core.Path.{ap}
use Prim.Native.Nat.{ℕ}
use lib.Dec.{ltb}
use Rattle.numbers.specs.Limits.{scratch_length}
use Rattle.plan.specs.Scratch.{scratch_short}
use Rattle.plan.proofs.is_short.Goals as goal

pub returns : goal.returns
unfolding scratch_short
returns c = ap (λ (n : ℕ). ltb n scratch_length) c.entries.ensures
