-- The first i entries of the lent list are the fetches, the others as they were.
use Rattle.std.proofs.Common.{◌≡◌}
use Rattle.fetch_list.specs.Fetches.{written}
use Rattle.fetch_list.proofs.write_fetches.Given as goal

abbrev pub invariant-loop-i : goal.invariant-loop-i
invariant-loop-i l = l.out ≡ written l.fetches l.i l.fn.out
