-- The sum stays below what it is cut to.
use Rattle.std.proofs.Common.{◌<◌}
use Rattle.plan_cases.proofs.sum_of.Given as goal

abbrev pub invariant-loop-byte : goal.invariant-loop-byte
invariant-loop-byte l = l.sum < 1000003
