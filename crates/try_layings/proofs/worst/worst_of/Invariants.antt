use Rattle.std.proofs.Common.{◌≡◌, ◌*◌, ◌≤◌}
use Rattle.laws.specs.Greatest.{greatest_of}
use Rattle.numbers.specs.Limits.{max_time}
use Rattle.try_layings.proofs.Pairs.{taken}
use Rattle.try_layings.proofs.worst.worst_of.Given as goal

abbrev pub invariant-loop-b : goal.invariant-loop-b
invariant-loop-b l = (l.worst ≡ greatest_of (taken l.fn.showing l.fn.blocks l.fn.row) l.b) × (l.worst ≤ 2 * max_time)
