-- The places of a record: the rules' test of them, and the facts on its numbers that the test in code tells.
-- Assumes nothing.
use Rattle.std.specs.Prelude.{ℕ, ◌≤◌, ◌<◌, ◌≡◌, true, get_or, take}
use Rattle.std.proofs.Common.{sym, ◌∙◌, arith}
use Rattle.std.proofs.Math.Logic.{by_cases}
use Rattle.std.proofs.Math.Decide.{dec_lt, ℕ_discrete}
use Rattle.std.proofs.Math.ListN.{get_or-eq_default}
use Rattle.numbers.specs.Limits.{max_streams}
use Rattle.numbers.specs.Slots.{waiting}
use Rattle.rules.specs.Order.{waiting_count, by_place}
use Rattle.turns.specs.Facts.{FreeFrom, Sound}
use Rattle.turns.specs.Places.{Places, places_pass, places_say}
use Rattle.desk.specs.declared.Desk.{Desk}
use Rattle.desk.specs.Desk.{supply_of, order_of, slots_in, view_of}
use Rattle.desk.specs.View.{Wide}
use Rattle.desk.specs.Asked.{asked_count, asked_slots, asked_first}
use Rattle.desk.specs.Slots.{length_in_law, kind_in}
use Rattle.soundness.specs.Facts.{Placed, AllTidy}

module _ (d : Desk) (w : Wide d) where
  -- how many ask, as the code counts them
  abbrev pub asked : ℕ
  asked = asked_count (take d.plan.streams d.kinds)

  abbrev pub AllPlaced : Type 0
  AllPlaced = Placed asked d.plan.streams d.kinds d.places

  asked_all : FreeFrom (supply_of d.plan) d.plan.streams (slots_in d) → waiting_count (supply_of d.plan) (slots_in d) ≡ asked
  asked_all u =
      let p = supply_of d.plan in
      asked_slots p d.kinds d.next d.held ∙ sym (asked_first p d.plan.streams d.kinds d.next d.held u)

  -- ---- of a sound record

  module _ (h : Sound (supply_of d.plan) (order_of d.plan) (view_of d)) where
    pub sound_places : Places (supply_of d.plan) (slots_in d) d.places
    unfolding view_of by_place
    sound_places = places_say (supply_of d.plan) (slots_in d) d.places h.queue

    unused : FreeFrom (supply_of d.plan) d.plan.streams (slots_in d)
    unfolding view_of supply_of
    unused = h.unused

    pub sound_idle : (i : ℕ) → d.plan.streams ≤ i → get_or d.places i 0 ≡ 0
    sound_idle i l = sound_places.idle i (λ k. omega (arith, unused i l))

    pub sound_placed : AllPlaced
    sound_placed = record {
      each = λ i l. record {
        taken = λ k. (sound_places.named i (kind_in d w i ∙ k), omega (arith, sound_places.low i, asked_all unused));
        idle = λ k. sound_places.idle i (λ z. k (sym (kind_in d w i) ∙ z));
      };
      apart = λ i j l m. sound_places.apart i j;
    }

  -- ---- of a tidy one that passes

  module _ (t : AllTidy d) (u : FreeFrom (supply_of d.plan) d.plan.streams (slots_in d)) (q : AllPlaced) where
    -- slots from n on have no place
    past : (i : ℕ) → d.plan.streams ≤ i → get_or d.places i 0 ≡ 0
    past i l = by_cases (dec_lt i max_streams) (λ m. t.idle i m l) (λ m. get_or-eq_default d.places 0 {n = i} (omega (arith, w.places)))

    -- so one with a place is before them
    within : (i : ℕ) → 0 < get_or d.places i 0 → i < d.plan.streams
    within i h = by_cases (dec_lt i d.plan.streams) (λ l. l) (λ l. absurd (omega (arith, past i (omega arith))))

    low : (i : ℕ) → get_or d.places i 0 ≤ asked
    low i =
        by_cases (dec_lt i d.plan.streams)
        (λ l. by_cases (ℕ_discrete (get_or d.kinds i 0) waiting)
        (λ k. ((q.each i l).taken k).1)
        (λ k. omega (arith, (q.each i l).idle k)))
        (λ l. omega (arith, past i (omega arith)))

    placed_places : Places (supply_of d.plan) (slots_in d) d.places
    placed_places = record {
      long = w.places ∙ sym (length_in_law d w);
      idle = λ i k. by_cases (dec_lt i d.plan.streams) (λ l. (q.each i l).idle (λ z. k (kind_in d w i ∙ z))) (λ l. past i (omega arith));
      named = λ i k. by_cases (dec_lt i d.plan.streams) (λ l. ((q.each i l).taken (sym (kind_in d w i) ∙ k)).0)
          (λ l. absurd (omega (arith, u i (omega arith))));
      low = λ i. omega (arith, low i, asked_all u);
      apart = λ i j h e. q.apart i j (within i h) (within j (omega arith)) h e;
    }

    pub placed_sound : (order_of d.plan).queue_sound d.places (slots_in d) ≡ true
    unfolding by_place
    placed_sound = places_pass (supply_of d.plan) (slots_in d) d.places placed_places
