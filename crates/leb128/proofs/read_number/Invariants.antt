use Rattle.std.proofs.Common.{◌≡◌, ◌-◌, ◌≤◌, ◌^◌}
use Rattle.leb128.specs.Number.{scan, number_at}
use Rattle.leb128.proofs.NumberWays.{Room}
use Rattle.leb128.proofs.read_number.Given as goal

abbrev pub invariant-loop-turn : goal.invariant-loop-turn
invariant-loop-turn l =
    (scan (5 - l.turn) l.s l.start l.at l.sum (2 ^ l.shift) ≡ number_at l.s l.start) × Room (5 - l.turn) l.shift l.sum × (l.start ≤ l.at)
