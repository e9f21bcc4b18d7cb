use Rattle.std.proofs.Common.{◌≡◌, List, ℕ, ◌*◌, length, take}
use Rattle.numbers.specs.Units.{parts}
use Rattle.rules.specs.Supply.{Supply}
use Rattle.rules.specs.Arrays.{slots_of}
use Rattle.turns.specs.Turns.{least_held}
use Rattle.desk.specs.Shown.{Slots}
use Rattle.floor.specs.Floor.{ample}
use Rattle.floor.proofs.least_level.Given as goal

-- the least of the slots so far is found
abbrev pub invariant-loop-kind : goal.invariant-loop-kind
invariant-loop-kind l = (p : Supply ℕ) (xs : List ℕ) → Slots p l.streams l.fn.kinds xs l.fn.held
    → l.level ≡ parts * least_held p ample (take (length l.yielded) (slots_of p l.fn.kinds xs l.fn.held))
