-- A request is granted in time: the rules' law over their scheduler, carried to the calls on a record; and a sweep is all that one can wait.
-- Assumes nothing.
use Prim.Native.Nat.{ℕ, zero, suc, ◌+◌, ◌*◌, ◌-◌, ◌≤◌, min}
use Rattle.std.specs.Prelude.{◌≡◌}
use Rattle.std.proofs.Math.Path.{ap}
use Rattle.std.proofs.Common.{arith}
use mathlib.Core.List.{List, [], ◌∷◌, ◌++◌, map, map-append}
use Rattle.plan.specs.declared.Plan.{Plan}
use Rattle.rules.specs.Supply.{Lawful}
use Rattle.rules.specs.Scheduler.{at}
use Rattle.rules.specs.Calls.{Given, is_accepted}
use Rattle.turns.specs.Strict.{Strict}
use Rattle.turns.specs.Verdicts.{refusals_strict}
use Rattle.safety.specs.Gain.{gain}
use Rattle.desk.specs.Desk.{supply_of, order_of, rules_of}
use Rattle.desk.specs.Promise.{supply_named}
use Rattle.trace.specs.Safe.{Seen}
use Rattle.trace.specs.Wait.{sweep_gain, IsLeast}
use Rattle.rules.specs.Calls as C
use Rattle.safety.specs.Claim as K
use Rattle.safety.specs.Wait as W

-- ---- calls of another type, seen as these

module _ {X Y : Type 0} (g : X → Y) (v : Seen Y) where
  abbrev pub one_more : (xs : List X) (y : X) → map g (xs ++ (y ∷ [])) ≡ map g xs ++ (g y ∷ [])
  one_more xs y = map-append g xs (y ∷ [])

-- ---- other numbers, which accept the same calls

module _ {X : Type 0} (v : Seen X) (number : List X → X → ℕ) (same : (xs : List X) (x : X) → is_accepted (number xs x) ≡ is_accepted (v.number xs x)) where
  abbrev pub renumbered : Seen X
  renumbered = record { desk = v.desk; book = v.book; number = number; bound = v.bound; move = v.move; fair = v.fair; room = v.room }

-- ---- the rules

module _ (p : Plan) (ok : Lawful (supply_of p)) where
  abbrev pub strict : Strict (supply_of p) (order_of p) (rules_of p)
  strict = refusals_strict (supply_of p) (supply_named p) (order_of p)

  abbrev pub state_after : List (Given ℕ) → C.State ℕ (List ℕ)
  state_after gs = K.state_after (supply_of p) (order_of p) gs

-- ---- the least G

-- where the margin is within a sweep's gain, G is 1, or 0 where there is no margin
pub least_within : (p : Plan) → p.margin ≤ sweep_gain p → IsLeast p (min 1 p.margin)
least_within p h = record { enough = enough p.margin (sweep_gain p) h; least = λ H u. least p.margin (sweep_gain p) H u }
  where
    enough : (m g : ℕ) → m ≤ g → m ≤ min 1 m * g
    enough zero g h = omega arith
    enough (suc m) g h = let e : min 1 (suc m) ≡ 1 = omega arith in rw e (omega arith)

    least : (m g H : ℕ) → m ≤ H * g → min 1 m ≤ H
    least m g zero u = omega arith
    least m g (suc H) u = omega arith
