-- How many entries a begin answers: at most one for each visit to n blocks, and at most what the caller has room for.
-- Assumes nothing.
use Rattle.std.specs.Prelude.{ℕ, suc, ◌*◌, ◌-◌, ◌≤◌, ◌≡◌, List, length}
use Rattle.std.proofs.Math.Path.{refl}
use Rattle.std.proofs.Common.{ap, ◌∙◌, ⊎_elim, arith, mul_comm, mul-le-mul_left}
use Rattle.numbers.specs.Limits.{max_streams}
use Rattle.legality.specs.Legality as legality
use Rattle.placement.specs.Showing.{Showing, one, loop, pairs, visits_of, visits_few, other_places}
use Rattle.pacing.specs.Shelf.{block_in}
use Rattle.plan.specs.declared.Plan.{Plan}
use Rattle.plan.specs.Plan.{showing_in}
use Rattle.rules.specs.Scheduler.{Slot, entries, fetch_count}
use Rattle.rules.specs.Calls.{accepted}
use Rattle.turns.specs.Sweeps.{kept_free, fetches_le}
use Rattle.turns.specs.Sorting.{entries_length}
use Rattle.desk.specs.declared.Desk.{Desk}
use Rattle.desk.specs.declared.Begun.{Begun}
use Rattle.desk.specs.Desk.{visits_in, supply_of, slots_in, view_of, fetches_of, begin_desk}
use Rattle.desk.specs.View.{Wide}
use Rattle.desk.specs.Ready as D
use Rattle.desk.specs.Ready.{Ready, ready_lawful}
use Rattle.desk.specs.Records.{not_begun}
use Rattle.sweep.specs.Steps.{served_in, begun_desk}
use Rattle.sweep.specs.Kept.{begun_kept}
use Rattle.scheduler.specs.Ways.{NotBegun, HasBegun, begin_ways}

-- a block gives an entry for each visit
others_count : (x : Showing) (l : ℕ → ℕ) (b : ℕ) → length (other_places x l b) ≡ visits_of x - 1
others_count one l b = refl
others_count loop l b = refl
others_count pairs l b = refl

each_visit : (p : Plan) (ss : List (Slot ℕ)) → length (entries (supply_of p) ss) ≡ visits_in p * fetch_count (supply_of p) ss
each_visit p ss = entries_length (supply_of p) (visits_in p - 1) others ss ∙ mul_comm (fetch_count (supply_of p) ss) (suc (visits_in p - 1))
    ∙ ap (λ (v : ℕ). v * fetch_count (supply_of p) ss) (omega (arith, visits_few (showing_in p)))
  where
    others : (b : ℕ) → length ((supply_of p).others b) ≡ visits_in p - 1
    others b = unfold supply_of in others_count (showing_in p) _ (block_in b)

streams_are : (p : Plan) → (supply_of p).n ≡ p.streams
unfolding supply_of
streams_are p = refl

begun_few : (d : Desk) → Ready d → (begun_desk d).fetches.count ≤ visits_in d.plan * d.plan.streams
unfolding begun_desk fetches_of accepted view_of
begun_few d r =
    let s = supply_of d.plan in
    let ts : List (Slot ℕ) = (served_in d).slots in
    let free = kept_free s s.n (slots_in d) ts (begun_kept d r) r.sound.unused in
    let few : fetch_count s ts ≤ d.plan.streams = omega (arith, fetches_le s s.n ts free, streams_are d.plan) in
    omega (arith, each_visit d.plan ts, mul-le-mul_left (visits_in d.plan) few)

-- a begin answers at most 256 entries, and no more than there is room for
pub begin_few : (d : Desk) → Wide d → legality.Wide d.plan.figures → (ps ls : List ℕ) (room : ℕ)
    → ((begin_desk d ps ls room).fetches.count ≤ max_streams) × ((begin_desk d ps ls room).fetches.count ≤ room)
begin_few d w z ps ls room = ⊎_elim refused accepted (begin_ways d w z ps ls room)
  where
    none : (k : ℕ) → (not_begun d k).fetches.count ≡ 0
    none k = unfold not_begun fetches_of in refl

    refused : (k : ℕ) × NotBegun d w z ps ls room k → ((begin_desk d ps ls room).fetches.count ≤ max_streams) × ((begin_desk d ps ls room).fetches.count ≤ room)
    refused h = omega (arith, none h.0, ap (λ (b : Begun). b.fetches.count) h.1.answer)

    accepted : HasBegun d w z ps ls room → ((begin_desk d ps ls room).fetches.count ≤ max_streams) × ((begin_desk d ps ls room).fetches.count ≤ room)
    accepted h = omega (arith, begun_few d h.ready, (D.visits_are d h.ready).few, h.entries, ap (λ (b : Begun). b.fetches.count) h.answer)
