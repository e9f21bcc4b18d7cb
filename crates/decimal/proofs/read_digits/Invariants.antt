use Rattle.std.proofs.Common.{◌≡◌}
use Rattle.decimal.proofs.DigitWays.{Reading}
use Rattle.decimal.proofs.read_digits.Given as goal

abbrev pub invariant-loop-at : goal.invariant-loop-at
invariant-loop-at l = (l.next ≡ l.at) × Reading l.fn.text l.fn.start l.value l.at
