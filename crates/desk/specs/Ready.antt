-- What a call knows past the test of soundness.
-- Assumes nothing.
use Rattle.std.specs.Prelude.{ℕ, ◌+◌, ◌*◌, ◌-◌, ◌≤◌, ◌<◌, ◌≡◌, refl}
use Rattle.std.proofs.Common.{ap, arith}
use Rattle.numbers.specs.Limits.{max_bytes, max_streams}
use Rattle.card.specs.Card.{Legal}
use Rattle.placement.specs.Showing.{visits_few}
use Rattle.pacing.specs.Streams.{overhead, cap_visits}
use Rattle.plan.specs.declared.Plan.{Plan}
use Rattle.plan.specs.Plan.{showing_in, streams_of, plan_of}
use Rattle.plan.specs.Legal.{streams_few}
use Rattle.plan.proofs.Legal.{buffer_small}
use Rattle.plan.specs.Promise.{buffer_formula}
use Rattle.rules.specs.Supply.{Lawful}
use Rattle.turns.specs.Facts.{Sound}
use Rattle.desk.specs.declared.Desk.{Desk}
use Rattle.desk.specs.Desk.{visits_in, supply_of, order_of, view_of}
use Rattle.desk.specs.View.{Wide, same_length}
use Rattle.desk.specs.Promise.{plan_lawful}
use Rattle.desk.specs.Shown.{Slots, Visits}

-- the record is the plan of its figures, and its slots are sound
pub record Ready (d : Desk) : Type 0 where
  pub legal : Legal (visits_in d.plan) d.plan.figures
  pub some : 0 < streams_of (showing_in d.plan) d.plan.figures
  pub planned : d.plan ≡ plan_of (showing_in d.plan) d.plan.figures
  pub sound : Sound (supply_of d.plan) (order_of d.plan) (view_of d)

pub ready_lawful : (d : Desk) → Ready d → Lawful (supply_of d.plan)
ready_lawful d r = rw r.planned (plan_lawful (showing_in d.plan) d.plan.figures r.legal r.some)

-- ---- the sizes of a plan record

-- n is at most the slots, and so many blocks take at most 256 visits
pub visits_are : (d : Desk) → Ready d → Visits (visits_in d.plan) d.plan.streams
unfolding plan_of
visits_are d r =
    let x = showing_in d.plan in
    let v = visits_few x in
    let h = cap_visits x d.plan.streams (omega (arith, ap (λ (p : Plan). p.streams) r.planned, streams_few x d.plan.figures r.legal)) in
    record { some = v.0; two = v.1; slots = h.1; few = h.0 }

pub streams_are : (d : Desk) → Ready d → d.plan.streams ≤ max_streams
streams_are d r = (visits_are d r).slots

-- by the table of overheads
pub overheads_are : (d : Desk) (k : ℕ) → (supply_of d.plan).overhead k ≡ overhead d.plan.figures.table (visits_in d.plan * k)
unfolding supply_of
overheads_are d k = refl

-- the buffer has room for three blocks
pub buffer_has : (q : Plan) → q ≡ plan_of (showing_in q) q.figures → 3 * q.figures.bytes ≤ q.buffer
unfolding plan_of
buffer_has q e = omega (arith, ap (λ (x : Plan). x.buffer) e, buffer_formula (showing_in q) q.figures)

-- and is at most four of the largest
pub buffer_most : (q : Plan) → Legal (visits_in q) q.figures → q ≡ plan_of (showing_in q) q.figures → q.buffer ≤ 4 * max_bytes
unfolding plan_of
buffer_most q ok e = omega (arith, ap (λ (x : Plan). x.buffer) e, buffer_small (showing_in q) q.figures ok, ok.bytes.1)

-- ---- the record as the steps of a sweep see it

pub ready_slots : (d : Desk) → Wide d → Ready d → Slots (supply_of d.plan) d.plan.streams d.kinds d.next d.held
unfolding view_of supply_of
ready_slots d w r = record { long = w.kinds; same = same_length d w; unused = r.sound.unused }

-- the buffer less B
pub room_left : (d : Desk) → Ready d → d.plan.buffer - d.plan.figures.bytes + (supply_of d.plan).B ≡ (supply_of d.plan).buffer
unfolding supply_of
room_left d r = omega (arith, buffer_has d.plan r.planned)
