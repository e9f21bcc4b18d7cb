-- The steps of a begin, one after the other.
-- Assumes nothing.
use Prim.Native.Nat.{ℕ, ◌+◌, ◌*◌, ◌-◌, ◌≤◌, ◌<◌}
use mathlib.Core.Path.{◌≡◌, refl, sym, ap, subst, ◌∙◌}
use mathlib.Core.Logic.{by_cases}
use mathlib.Core.Bool.{Bool}
use mathlib.Core.List.{List, map}
use native.Mathlib.Omega.{arith}
use native.Mathlib.Decide.{dec_lt, ℕ_discrete}
use native.Mathlib.Nat.{mul-le-mul}
use lib.ListN.{length, get_or}
use Rattle.laws.specs.Each.{Both, both_at, both_length}
use Rattle.numbers.specs.Limits.{max_bytes, max_rate, max_streams}
use Rattle.numbers.specs.Slots.{waiting, playing}
use Rattle.numbers.specs.Units.{parts}
use Rattle.pacing.specs.Streams.{overhead}
use Rattle.rules.specs.Scheduler.{Slot, free_slot, at, leads, low_water, started, entries, bound}
use Rattle.rules.specs.Order.{Begun, eldest_lead, served, by_place}
use Rattle.rules.specs.Calls.{accepted}
use Rattle.rules.specs.Arrays.{slots_of}
use Rattle.turns.specs.Orderly.{Kept, kept_refl}
use Rattle.turns.specs.Facts.{FreeFrom}
use Rattle.turns.specs.Sweeps.{kept_free}
use Rattle.turns.specs.Begins.{started_kept}
use Rattle.turns.specs.ByPlace.{started_waits}
use Rattle.turns.specs.Places.{Places, places_say, places_same}
use Rattle.turns.specs.Served.{dropped_by}
use Rattle.turns.specs.Turns.{least_held, started_leads}
use Rattle.turns.specs.ArrayLaws.{length_slots, slot_at, kinds_of_slots}
use Rattle.desk.specs.declared.Desk.{Desk}
use Rattle.desk.specs.declared.Fetches.{Fetches}
use Rattle.desk.specs.Shown.{Gathered, Slots, others_by, Gathers}
use Rattle.desk.specs.Desk.{visits_in, supply_of, slots_in, view_of, desk_of, verdict, fetches_of}
use Rattle.desk.specs.View.{Wide}
use Rattle.desk.specs.Ready.{Ready, streams_are, overheads_are, ready_slots, room_left}
use Rattle.desk.specs.Slots.{length_in_law, slot_in_law, kind_in}
use Rattle.floor.specs.Floor.{most_lead, ample, LeadsSummed, mark_is}
use Rattle.desk_columns.specs.Films.{legal_small}
use Rattle.soundness.specs.Facts.{LeadSource, ZonesRead}
use Rattle.soundness.specs.Tests.{sound_tidy, lead_says, tidy_found}
use Rattle.grants.specs.Grants.{most_floor, leads_by_slot, InLine, Asked, Asks, served_to}
use Rattle.grants.specs.Laws.{places_queued}
use Rattle.grants.specs.Line.{Queued, Lined}
use Rattle.fetches.specs.Told.{Timed, Positioned}
use Rattle.sweep.specs.Begins.{Served}
use Rattle.sweep.specs.Gathered.{Reading}
use Rattle.sweep.specs.Steps.{served_in, begun_desk, swept_of}
use Rattle.sweep.specs.Kept.{begun_kept}

-- the floor, and what a filling slot must hold to play
pub floor_is : (d : Desk) (mark L M : ℕ) → mark ≡ parts * d.plan.figures.bytes + d.plan.figures.rate * L → L ≡ M → mark ≡ low_water (supply_of d.plan) M
floor_is d mark L M e q = e ∙ sym (mark_is d.plan L) ∙ ap (low_water (supply_of d.plan)) q

-- it is in its range
pub floor_most : (B c L mark : ℕ) → mark ≡ parts * B + c * L → B ≤ max_bytes → c ≤ max_rate → L ≤ max_streams * most_lead → mark ≤ most_floor
floor_most B c L mark e b r l = let h : c * L ≤ max_rate * (max_streams * most_lead) = mul-le-mul r l in omega arith

-- the places of a record that is ready
module _ (d : Desk) (w : Wide d) (r : Ready d) where
  pub ready_places : Places (supply_of d.plan) (slots_in d) d.places
  unfolding view_of by_place
  ready_places = places_say (supply_of d.plan) (slots_in d) d.places r.sound.queue

  pub ready_queued : Queued d.places d.plan.streams
  ready_queued =
      places_queued (supply_of d.plan) d.plan.streams (slots_in d) d.places (length_in_law d w) (ready_slots d w r).unused ready_places

  -- the leads of its requests, by a source of them
  module _ (listed : Bool) (ps ls : List ℕ) (q : LeadSource listed d.plan ps ls) where
    -- the zones are its own
    zones : ZonesRead d d.plan.figures.positions d.plan.figures.times
    zones = (refl, refl)

    abbrev lead : ℕ → ℕ
    lead = leads_by_slot listed d ps ls

    -- a slot that is not free is one of the first n
    below : (i : ℕ) → waiting ≤ get_or d.kinds i 0 → i < d.plan.streams
    below i a = by_cases (dec_lt i d.plan.streams) (λ h. h)
        (λ h. absurd (omega (arith, a, kind_in d w i, (ready_slots d w r).unused i (omega arith))))

    pub own_lead : (i : ℕ) → waiting ≤ get_or d.kinds i 0 → get_or d.kinds i 0 ≤ playing
        → lead i ≡ (supply_of d.plan).lead (get_or d.next i (supply_of d.plan).none)
    unfolding supply_of
    own_lead i a b =
        lead_says d w (sound_tidy d w r.sound) (streams_are d r) (legal_small _ r.legal) r.legal.films.0 listed ps ls q _ _ zones _ refl i
        (below i a) a b

    pub ready_asked : Asked (supply_of d.plan) lead d.kinds d.next d.held d.places
    ready_asked = record { places = ready_places; own = λ i h k. own_lead i (omega arith) (omega arith) }

    -- each slot in the line of its requests is one
    in_line : (line : List ℕ) (count : ℕ) → Lined d.places line count → (k : ℕ) → 0 < k → k ≤ count → get_or d.kinds (get_or line k 0) 0 ≡ waiting
    in_line line count o k h m =
        let i = get_or line k 0 in
        sym (kind_in d w i) ∙ by_cases (ℕ_discrete (at (supply_of d.plan) (slots_in d) i).kind waiting) (λ e. e)
        (λ e. absurd (omega (arith, ready_places.idle i e, o.slot k h m)))

    pub ready_line : (line : List ℕ) (count : ℕ) → Lined d.places line count → InLine listed d ps ls line count
    ready_line line count o =
        let f = tidy_found d w (sound_tidy d w r.sound) (streams_are d r) (legal_small _ r.legal) r.legal.films.0 listed ps ls q _ _ zones _ refl in
        record {
          shelved = f.shelved;
          here = λ k h m. let e = in_line line count o k h m in
              let l = below (get_or line k 0) (omega arith) in
              record { shelved = f.shelved; film = f.films _ l; here = f.here _ l (omega arith) (omega arith) };
          small = λ k h m. let e = in_line line count o k h m in f.small _ (below _ (omega arith)) (omega arith) (omega arith);
        }

-- d has other kinds ks, and so the slots ts, which a step of a begin may leave
module _ (d : Desk) (w : Wide d) (r : Ready d) (ks : List ℕ) (ts : List (Slot ℕ)) (q : slots_of (supply_of d.plan) ks d.next d.held ≡ ts)
    (kept : Both Kept (slots_in d) ts) where
  long : length ks ≡ 256
  long =
      sym (length_slots (supply_of d.plan) ks d.next d.held) ∙ ap (λ (ss : List (Slot ℕ)). length ss) q
      ∙ both_length Kept (slots_in d) ts kept ∙ length_in_law d w

  unused : FreeFrom (supply_of d.plan) d.plan.streams (slots_of (supply_of d.plan) ks d.next d.held)
  unfolding view_of supply_of
  unused = rw q (kept_free (supply_of d.plan) d.plan.streams (slots_in d) ts kept r.sound.unused)

  pub slots_kept : Slots (supply_of d.plan) d.plan.streams ks d.next d.held
  slots_kept = record { long = long; same = record { nexts = w.next ∙ sym long; helds = w.held ∙ sym long }; unused = unused }

  -- a slot that asks, fills or plays now did so before
  before : (i : ℕ) → 1 ≤ get_or ks i 0 → get_or ks i 0 ≤ 3 → (1 ≤ get_or d.kinds i 0) × (get_or d.kinds i 0 ≤ 3)
  unfolding supply_of
  before i a b =
      let p = supply_of d.plan in
      let k = both_at Kept (slots_in d) ts i (free_slot p) (free_slot p) kept (kept_refl (free_slot p)) in
      let now = ap (λ (s : Slot ℕ). s.kind) (sym (slot_at p ks d.next d.held slots_kept.same i) ∙ ap (λ (ss : List (Slot ℕ)). at p ss i) q) in
      let was = ap (λ (s : Slot ℕ). s.kind) (slot_in_law d w i) in
      omega (arith, now, was, k.occupied, k.rises)

  pub reading : Reading d ks
  reading i a b = before i (omega arith) b

-- filling slots have started to play: d has the kinds ks
module _ (d : Desk) (w : Wide d) (r : Ready d) (x : ℕ) (ks : List ℕ)
    (q : slots_of (supply_of d.plan) ks d.next d.held ≡ started (supply_of d.plan) x (slots_in d)) where
  pub slots_started : Slots (supply_of d.plan) d.plan.streams ks d.next d.held
  slots_started = slots_kept d w r ks _ q (started_kept (supply_of d.plan) x (slots_in d))

  -- what the grants are told: g has the leads by the slot, and c is the rate
  pub asks_started : (g : ℕ → ℕ) (c sum floor level : ℕ) → c ≡ d.plan.figures.rate
      → ((i : ℕ) → waiting ≤ get_or d.kinds i 0 → get_or d.kinds i 0 ≤ playing → g i ≡ (supply_of d.plan).lead (get_or d.next i (supply_of d.plan).none))
      → LeadsSummed d sum
      → floor ≡ parts * d.plan.figures.bytes + d.plan.figures.rate * sum
      → level ≡ parts * least_held (supply_of d.plan) ample (slots_of (supply_of d.plan) ks d.next d.held)
      → Asks (supply_of d.plan) c floor level g ks d.next d.held d.places
  unfolding supply_of
  asks_started g c sum floor level e own f m l =
      let p = supply_of d.plan in
      record {
        asked = record {
          places = subst (λ (ss : List (Slot ℕ)). Places p ss d.places) (sym q)
              (places_same p (slots_in d) _ d.places (started_waits p x (slots_in d)) (ready_places d w r));
          own = λ i h k. let b = before d w r ks _ q (started_kept p x (slots_in d)) i (omega arith) (omega arith) in own i b.0 b.1;
        };
        rate = e;
        mark = floor_is d floor sum _ m (f.sums ∙ sym (started_leads p x (slots_in d)) ∙ ap (leads p) (sym q));
        least = l;
      }

  -- then g asked slots were granted, and the kinds are js
  pub begun_all : (js : List ℕ) (g : ℕ)
      → served (supply_of d.plan) 256 (slots_of (supply_of d.plan) ks d.next d.held) d.places
      ≡ served_to (slots_of (supply_of d.plan) js d.next d.held) (dropped_by g d.places)
      → x ≡ low_water (supply_of d.plan) (leads (supply_of d.plan) (slots_in d) + eldest_lead (supply_of d.plan) (slots_in d) d.places)
      → Served d js (dropped_by g d.places)
  unfolding by_place
  begun_all js g e m = record { slots = ap (λ (b : Begun ℕ (List ℕ)). b.slots) all; places = ap (λ (b : Begun ℕ (List ℕ)). b.queue) all }
    where
      all : served_to (slots_of (supply_of d.plan) js d.next d.held) (dropped_by g d.places) ≡ served_in d
      all =
          let p = supply_of d.plan in
          sym e
          ∙ ap (λ (ts : List (Slot ℕ)). served p 256 ts d.places) q
          ∙ ap (λ (n : ℕ). served p 256 (started p n (slots_in d)) d.places) m
          ∙ ap (λ (n : ℕ). served p n (started p (low_water p (leads p (slots_in d) + eldest_lead p (slots_in d) d.places)) (slots_in d)) d.places)
          (sym (length_in_law d w))

-- both steps are done: d has the kinds ks and the places qs
module _ (d : Desk) (w : Wide d) (r : Ready d) (ks qs : List ℕ) (q : Served d ks qs) where
  -- who reads now asked, filled or played before
  pub reading_begun : Reading d ks
  reading_begun = reading d w r ks _ q.slots (begun_kept d r)

  slots_begun : Slots (supply_of d.plan) d.plan.streams ks d.next d.held
  slots_begun = slots_kept d w r ks _ q.slots (begun_kept d r)

  -- v is the visits of a block as they were read
  module _ (g : Gathered) (u : Gathers (supply_of d.plan) (visits_in d.plan) ks d.next g) (v : ℕ) (seen : v ≡ visits_in d.plan) where
    -- what the sweep bound and the list of fetches are told
    pub timed_begun : Timed (supply_of d.plan) d.plan.streams (d.plan.buffer - d.plan.figures.bytes) v d.plan.figures.table
        ks d.next d.held g.times
    unfolding supply_of
    timed_begun = record {
      slots = slots_begun;
      times = u.times;
      spare = room_left d r;
      moves = λ k. overheads_are d k ∙ ap (λ (n : ℕ). overhead d.plan.figures.table (n * k)) (sym seen);
    }

    pub positioned_begun : Positioned (supply_of d.plan) d.plan.streams (d.plan.buffer - d.plan.figures.bytes) v ks d.next
        d.held g.positions g.others
    unfolding supply_of
    positioned_begun = record {
      slots = slots_begun;
      positions = u.positions;
      others = λ i l a b. u.others i l a b ∙ ap (λ (n : ℕ). others_by n (get_or g.others i 0)) (sym seen);
      spare = room_left d r;
      own = λ b. refl;
    }

  -- the answer
  pub begun_is : (b : ℕ) (es : Fetches) → b ≡ bound (supply_of d.plan) (slots_of (supply_of d.plan) ks d.next d.held)
      → es ≡ fetches_of (entries (supply_of d.plan) (slots_of (supply_of d.plan) ks d.next d.held))
      → record { verdict = verdict 0 0; kinds = ks; places = qs; bound = b; fetches = es } ≡ swept_of (begun_desk d)
  unfolding desk_of begun_desk swept_of accepted view_of
  begun_is b es u v =
      let p = supply_of d.plan in
      λ t. record {
        verdict = verdict 0 0;
        kinds = (sym (kinds_of_slots p ks d.next d.held) ∙ ap (λ (ts : List (Slot ℕ)). map (λ s. s.kind) ts) q.slots) t;
        places = q.places t;
        bound = (u ∙ ap (bound p) q.slots) t;
        fetches = (v ∙ ap (λ (ts : List (Slot ℕ)). fetches_of (entries p ts)) q.slots) t;
      }
