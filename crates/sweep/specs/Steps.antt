-- What a begin and an end make of the desk where nothing turns them down.
-- Assumes nothing.
use Rattle.std.specs.Prelude.{ℕ, List, []}
use Rattle.rules.specs.Scheduler.{begin, end}
use Rattle.rules.specs.Order as Order
use Rattle.rules.specs.Calls.{accepted}
use Rattle.desk.specs.declared.Desk.{Desk}
use Rattle.desk.specs.declared.Begun.{Begun}
use Rattle.sweep.specs.declared.Swept.{Swept}
use Rattle.desk.specs.Desk.{supply_of, Queue, order_of, slots_in, view_of, desk_of, verdict, fetches_of}

-- the slots and their places after a begin that nothing turns down
abbrev pub served_in : Desk → Order.Begun ℕ Queue
served_in d = (order_of d.plan).begins d.places (slots_in d)

-- such a begin
unfoldable pub begun_desk : Desk → Begun
begun_desk d =
    let s = supply_of d.plan in
    let a = accepted s (order_of d.plan) (view_of d) begin in
    record { verdict = verdict 0 0; desk = desk_of d.plan a.scheduler; bound = a.bound; fetches = fetches_of a.entries }

-- what a begin answers of itself and changes of the desk, but for the phase
unfoldable pub swept_of : Begun → Swept
swept_of b = record { verdict = b.verdict; kinds = b.desk.kinds; places = b.desk.places; bound = b.bound; fetches = b.fetches }

-- of a begin that is refused
unfoldable pub not_swept : Desk → ℕ → Swept
not_swept d k = record { verdict = verdict k 0; kinds = d.kinds; places = d.places; bound = 0; fetches = fetches_of [] }

-- the answer of a begin that nothing turns down, from these
unfoldable pub begun_of : Desk → Swept → Begun
begun_of d s = record {
  verdict = s.verdict;
  desk = record { plan = d.plan; phase = 1; kinds = s.kinds; next = d.next; held = d.held; places = s.places };
  bound = s.bound;
  fetches = s.fetches;
}

-- an end with such draws
unfoldable pub ended_desk : Desk → List ℕ → Desk
ended_desk d draws = let s = supply_of d.plan in desk_of d.plan (accepted s (order_of d.plan) (view_of d) (end draws)).scheduler
