use Rattle.std.proofs.Common.{◌≡◌}
use Rattle.layings.specs.Numbered.{factorial}
use Rattle.try_layings.proofs.orders.factorial.Given as goal

abbrev pub invariant-loop-n : goal.invariant-loop-n
invariant-loop-n l = l.product ≡ factorial l.n
