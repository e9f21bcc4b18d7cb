-- The first slots stand in the line.
use Rattle.std.proofs.Common.{◌≤◌}
use Rattle.grants.specs.Line.{Queued}
use Rattle.grants.proofs.Lining.{Standing}
use Rattle.grants.proofs.line_up.Given as goal

abbrev pub invariant-loop-i : goal.invariant-loop-i
invariant-loop-i l = (l.count ≤ l.i) × ((q : Queued l.places l.streams) → Standing l.places l.streams q l.line l.count l.i)
