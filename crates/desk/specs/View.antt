-- Laws of the view: a record of 256 slots is the record of its view, and the view of a record that the rules give is what they gave.
-- Assumes nothing.
use Rattle.std.specs.Prelude.{ℕ, ◌≡◌, length}
use Rattle.std.proofs.Common.{sym, ◌∙◌}
use Rattle.numbers.specs.Limits.{max_streams}
use Rattle.plan.specs.declared.Plan.{Plan}
use Rattle.rules.specs.Order.{Scheduler}
use Rattle.turns.specs.ArrayLaws.{SameLength, slots_back, kinds_of_slots, nexts_of_slots, helds_of_slots}
use Rattle.desk.specs.declared.Desk.{Desk}
use Rattle.desk.specs.Desk.{supply_of, Queue, view_of, desk_of}

-- a record's arrays have 256 entries
pub record Wide (d : Desk) : Type 0 where
  pub kinds : length d.kinds ≡ max_streams
  pub next : length d.next ≡ max_streams
  pub held : length d.held ≡ max_streams
  pub places : length d.places ≡ max_streams

pub same_length : (d : Desk) → Wide d → SameLength (supply_of d.plan) d.kinds d.next d.held
same_length d w = record { nexts = w.next ∙ sym w.kinds; helds = w.held ∙ sym w.kinds }

-- a refused call answers the desk it was given
pub desk_of_view : (d : Desk) → Wide d → desk_of d.plan (view_of d) ≡ d
unfolding desk_of view_of
desk_of_view d w =
    let p = supply_of d.plan in
    let l = same_length d w in
    λ i. record {
      plan = d.plan;
      phase = d.phase;
      kinds = kinds_of_slots p d.kinds d.next d.held i;
      next = nexts_of_slots p d.kinds d.next d.held l.nexts i;
      held = helds_of_slots p d.kinds d.next d.held l.helds i;
      places = d.places;
    }

-- the next call sees what this one left
pub view_of_desk : (p : Plan) (s : Scheduler ℕ Queue) → view_of (desk_of p s) ≡ s
unfolding desk_of view_of
view_of_desk p s = λ i. record { phase = s.phase; slots = slots_back (supply_of p) s.slots i; queue = s.queue }
