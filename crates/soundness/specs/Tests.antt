-- The facts of a record and the rules' test of it (crate rules): each way that the test in code can take.
-- Assumes nothing.
use Rattle.std.specs.Prelude.{ℕ, ◌+◌, ◌*◌, ◌≤◌, ◌<◌, ◌≡◌, refl, Bool, true, false, List, get_or}
use Rattle.std.proofs.Math.Path.{sym, subst}
use Rattle.std.proofs.Common.{ap, ◌∙◌, arith}
use Rattle.std.proofs.Math.Logic.{by_cases}
use Rattle.std.proofs.Math.Decide.{dec_lt, ℕ_discrete}
use Rattle.std.proofs.Math.ListN.{get_or-eq_default}
use Rattle.numbers.specs.Limits.{max_streams}
use Rattle.numbers.specs.Slots.{free, waiting, playing, draining, sweeping}
use Rattle.numbers.specs.Units.{parts}
use Rattle.card.specs.declared.Figures.{Figures}
use Rattle.pacing.specs.Shelf.{film_in}
use Rattle.plan.specs.declared.Plan.{Plan}
use Rattle.plan.specs.Plan.{showing_in, lead_of}
use Rattle.plan.specs.Names.{Named, block_names, names_block}
use Rattle.rules.specs.Scheduler.{leads, low_water}
use Rattle.rules.specs.Arrays.{slot_of}
use Rattle.turns.specs.Facts.{Good, Sound, sound_of_good}
use Rattle.turns.specs.Turns.{sound_yes, sound_no, sound_at}
use Rattle.desk.specs.declared.Desk.{Desk}
use Rattle.desk.specs.Desk.{supply_of, order_of, slots_in, view_of}
use Rattle.desk.specs.View.{Wide, same_length}
use Rattle.desk.specs.Shown.{Slots}
use Rattle.desk.specs.FilmEnd.{end_says, end_at}
use Rattle.desk.specs.Promise.{supply_named}
use Rattle.desk.specs.Slots.{length_in_law, slot_in_law, kind_in}
use Rattle.desk_columns.specs.Films.{ShelfSmall}
use Rattle.floor.specs.Floor.{lead_sum, Added, LeadsSummed, mark_is}
use Rattle.floor.specs.Sources.{leads_next, Found}
use Rattle.soundness.specs.Facts.{slots_sound, Tells, Tidy, AllTidy, OthersIdle, PlayersHold, LeadSource, ZonesRead}
use Rattle.soundness.specs.Places.{AllPlaced, sound_idle, sound_placed, placed_sound}

-- ---- one slot

-- a good slot is tidy, and a tidy one is good where it holds the low-water mark
pub good_tidy : (p : Plan) (L k x h : ℕ) → Good (supply_of p) L (slot_of (supply_of p) k x h) → Tidy p.showing p.figures p.buffer k x h
unfolding supply_of
good_tidy p L k x h g = record {
  kinds = g.kinds;
  zeros = g.zeros;
  empty = g.empty;
  named = λ a b. block_names (showing_in p) p.figures x (g.named a b);
  ends = λ e. (end_says p x (g.past e)).0;
  past = λ e. let q = end_says p x (g.past e) in (q.1, q.2);
  some = g.some;
  fits = g.fits;
}

pub tidy_good : (p : Plan) (L k x h : ℕ) → Tidy p.showing p.figures p.buffer k x h → (k ≡ playing → low_water (supply_of p) L ≤ parts * h)
    → Good (supply_of p) L (slot_of (supply_of p) k x h)
unfolding supply_of
tidy_good p L k x h t f = record {
  kinds = t.kinds;
  zeros = t.zeros;
  empty = t.empty;
  named = λ a b. names_block (showing_in p) p.figures x (t.named a b);
  past = λ e. let q = t.past e in end_at p x (t.ends e) q.0 q.1;
  some = t.some;
  fits = t.fits;
  floored = f;
}

-- a tidy slot names a film of the shelf
pub film_tidy : {w : ℕ} {f : Figures} {buffer k x h : ℕ} → Tidy w f buffer k x h → 0 < f.films → film_in x < f.films
film_tidy {k = k} t some =
    by_cases (ℕ_discrete k free)
    (λ e. omega (arith, (t.zeros e).0))
    (λ e. by_cases (ℕ_discrete k draining) (λ q. (t.past q).0) (λ q. (t.named (omega arith) (omega (arith, t.kinds))).0))

-- ---- the whole record

module _ (d : Desk) (w : Wide d) where
  -- the low-water mark
  abbrev mark : ℕ
  mark = low_water (supply_of d.plan) (lead_sum d)

  abbrev IsSound : Type 0
  IsSound = Sound (supply_of d.plan) (order_of d.plan) (view_of d)

  pub good_at : IsSound → (i : ℕ)
      → Good (supply_of d.plan) (lead_sum d) (slot_of (supply_of d.plan) (get_or d.kinds i 0) (get_or d.next i 0) (get_or d.held i 0))
  unfolding view_of
  good_at h i =
      subst (Good (supply_of d.plan) (lead_sum d)) (slot_in_law d w i)
      (sound_at (supply_of d.plan) (supply_named d.plan) (order_of d.plan) (view_of d) h i)

  -- what soundness says of the arrays
  pub sound_tidy : IsSound → AllTidy d
  unfolding view_of supply_of
  sound_tidy h = record {
    slots = λ i l. good_tidy d.plan _ _ _ _ (good_at h i);
    unused = λ i l u. sym (kind_in d w i) ∙ h.unused i u;
    idle = λ i l. sound_idle d w h i;
  }

  -- the slots of a tidy record, as the steps see them
  pub tidy_slots : AllTidy d → Slots (supply_of d.plan) d.plan.streams d.kinds d.next d.held
  tidy_slots t = record {
    long = w.kinds;
    same = same_length d w;
    unused = λ i l. kind_in d w i ∙ by_cases (dec_lt i max_streams) (λ b. t.unused i b l)
        (λ b. get_or-eq_default d.kinds 0 {n = i} (omega (arith, w.kinds)));
  }

  -- its next blocks are in the source of leads, and what is added up there is the sum of its leads
  module _ (t : AllTidy d) (n : d.plan.streams ≤ max_streams) (f : ShelfSmall d.plan.figures) (some : 0 < d.plan.figures.films) (listed : Bool)
      (ps ls : List ℕ) (q : LeadSource listed d.plan ps ls) where
    -- the next block of slot i is one of its film
    block : (i : ℕ) → i < d.plan.streams → waiting ≤ get_or d.kinds i 0 → get_or d.kinds i 0 ≤ playing → Named d.plan.figures (get_or d.next i 0)
    block i l a b = (t.slots i (omega arith)).named a b

    -- of the zones as they were read, and n
    module _ (sizes times : List ℕ) (z : ZonesRead d sizes times) (m : ℕ) (e : m ≡ d.plan.streams) where
      abbrev lead : ℕ → ℕ
      lead = leads_next listed d sizes times ps ls

      pub lead_says : (i : ℕ) → i < m → waiting ≤ get_or d.kinds i 0 → get_or d.kinds i 0 ≤ playing
          → lead i ≡ lead_of (showing_in d.plan) d.plan.figures (get_or d.next i 0)
      lead_says i l a b = rw (z.0, z.1) (q.says _ (block i (omega arith) a b))

      pub tidy_found : Found listed d sizes times ps ls m
      tidy_found = record {
        shelved = f;
        films = λ i l. film_tidy (t.slots i (omega arith)) some;
        here = λ i l a b. rw (z.0, z.1) (q.here _ (block i (omega arith) a b));
        small = λ i l a b. omega (arith, lead_says i l a b, q.small _ (block i (omega arith) a b));
      }

      pub tidy_sum : (sum : ℕ) → Added lead d.kinds d.next m sum → LeadsSummed d sum
      unfolding supply_of
      tidy_sum sum a = record { sums = a.sums (supply_of d.plan) d.held (rw e (tidy_slots t)) lead_says; most = a.most }

  sound_players : IsSound → PlayersHold d.plan.streams d.kinds d.held mark
  sound_players h i l k = (good_at h i).floored k

  -- slots from n on play in no tidy record
  all_hold : AllTidy d → {x : ℕ} → PlayersHold d.plan.streams d.kinds d.held x → PlayersHold max_streams d.kinds d.held x
  all_hold t h i l k = by_cases (dec_lt i d.plan.streams) (λ a. h i a k) (λ a. absurd (omega (arith, t.unused i l (omega arith))))

  sound_phase : IsSound → d.phase ≤ sweeping
  unfolding view_of
  sound_phase h = h.phase

  -- and a record of which all this holds is sound
  facts_sound : d.phase ≤ sweeping → AllTidy d → AllPlaced d w → PlayersHold d.plan.streams d.kinds d.held mark → slots_sound d ≡ true
  unfolding view_of supply_of
  facts_sound e t q h =
      let p = supply_of d.plan in
      sound_yes p (supply_named d.plan) (order_of d.plan) (view_of d) e
      (λ j l. let u : j < max_streams = omega (arith, length_in_law d w) in
      sound_of_good p (supply_named d.plan) _ _ (subst (Good p (leads p (slots_in d))) (sym (slot_in_law d w j))
      (tidy_good d.plan _ _ _ _ (t.slots j u) (all_hold t h j u))))
      (λ j n l. kind_in d w j ∙ t.unused j (omega (arith, length_in_law d w)) n)
      (placed_sound d w t (tidy_slots t).unused q)

  -- the ways of the test
  pub unsound_phase : sweeping < d.phase → false ≡ slots_sound d
  unsound_phase l = sym (sound_no (supply_of d.plan) (supply_named d.plan) (order_of d.plan) (view_of d) (λ h. omega (arith, sound_phase h)))

  pub unsound_slots : (AllTidy d × OthersIdle d.plan.streams d.kinds d.places → ⊥) → false ≡ slots_sound d
  unsound_slots n = sym (sound_no (supply_of d.plan) (supply_named d.plan) (order_of d.plan) (view_of d)
      (λ h. n (sound_tidy h, λ i l. ((sound_placed d w h).each i l).idle)))

  pub unsound_places : (AllPlaced d w → ⊥) → false ≡ slots_sound d
  unsound_places n =
      sym (sound_no (supply_of d.plan) (supply_named d.plan) (order_of d.plan) (view_of d) (λ h. n (sound_placed d w h)))

  -- m is the mark as the code computes it, L the sum of the leads
  pub sound_told : (r : Bool) (m L : ℕ) → L ≡ lead_sum d → m ≡ parts * d.plan.figures.bytes + d.plan.figures.rate * L
      → d.phase ≤ sweeping → AllTidy d → AllPlaced d w → Tells r (PlayersHold d.plan.streams d.kinds d.held m) → r ≡ slots_sound d
  sound_told r m L a b e t q h =
      go r (subst (λ (x : ℕ). Tells r (PlayersHold d.plan.streams d.kinds d.held x))
      (b ∙ sym (mark_is d.plan L) ∙ ap (low_water (supply_of d.plan)) a) h)
    where
      go : (r : Bool) → Tells r (PlayersHold d.plan.streams d.kinds d.held mark) → r ≡ slots_sound d
      go true h = sym (facts_sound e t q (h.yes refl))
      go false h = sym (sound_no (supply_of d.plan) (supply_named d.plan) (order_of d.plan) (view_of d) (λ s. h.no refl (sound_players s)))
