-- What the steps of an end are told of a record that is ready.
-- Assumes nothing.
use Prim.Native.Nat.{ℕ, ◌*◌, ◌-◌, ◌/◌}
use mathlib.Core.Path.{◌≡◌, refl, ap, ◌∙◌}
use Rattle.rules.specs.Scheduler.{bound, most_drawn}
use Rattle.numbers.specs.Slots.{sweeping}
use Rattle.numbers.specs.Units.{micros}
use Rattle.desk.specs.declared.Desk.{Desk}
use Rattle.desk.specs.Shown.{Gathered, Gathers}
use Rattle.desk.specs.Desk.{visits_in, supply_of, slots_in, view_of}
use Rattle.desk.specs.View.{Wide}
use Rattle.desk.specs.Ready.{Ready, overheads_are, ready_slots, room_left}
use Rattle.fetches.specs.Told.{Timed}
use Rattle.draws.specs.Draws.{Sweeps}

module _ (d : Desk) (w : Wide d) (r : Ready d) where
  -- the sweep bound
  pub timed : (g : Gathered) → Gathers (supply_of d.plan) (visits_in d.plan) d.kinds d.next g
      → Timed (supply_of d.plan) d.plan.streams (d.plan.buffer - d.plan.figures.bytes) (visits_in d.plan) d.plan.figures.table
      d.kinds d.next d.held g.times
  unfolding supply_of
  timed g u = record { slots = ready_slots d w r; times = u.times; spare = room_left d r; moves = overheads_are d }

  -- the judge of the draws: b is the bound and m the most
  pub sweeps : d.phase ≡ sweeping → (b m : ℕ) → b ≡ bound (supply_of d.plan) (slots_in d) → m ≡ d.plan.figures.rate * b / micros
      → Sweeps (supply_of d.plan) (view_of d) d.plan.streams m d.kinds d.next d.held
  unfolding view_of supply_of most_drawn
  sweeps e b m q h = record {
    phase = e;
    shown = ready_slots d w r;
    slots = refl;
    streams = refl;
    most = h ∙ ap (λ (x : ℕ). d.plan.figures.rate * x / micros) q;
  }
