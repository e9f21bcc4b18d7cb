-- The first i places are dropped.
use Rattle.std.proofs.Common.{◌≡◌, ◌-◌}
use Rattle.laws.specs.Map.{map_to}
use Rattle.grants.proofs.drop_places.Given as goal

abbrev pub invariant-loop-i : goal.invariant-loop-i
invariant-loop-i l = l.places ≡ map_to (λ j x. x - l.granted) 0 l.i l.fn.places
