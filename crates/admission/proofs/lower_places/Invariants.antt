use Rattle.std.proofs.Common.{◌≡◌}
use Rattle.laws.specs.Map.{map_to}
use Rattle.rules.specs.Order.{dropped}
use Rattle.admission.proofs.lower_places.Given as goal

-- the places of the first slots are lowered
abbrev pub invariant-loop-place : goal.invariant-loop-place
invariant-loop-place l = l.place-items ≡ map_to (λ _. dropped l.gone) 0 l.place-index l.initial.place-items
