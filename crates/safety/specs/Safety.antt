-- An accepted call keeps the record sound, over any lawful supply and any orderly order.
-- Assumes nothing.
use Prim.Native.Nat.{ℕ, zero, suc, ◌+◌, ◌*◌, ◌-◌, ◌/◌, ◌≤◌}
use Rattle.std.specs.Prelude.{◌≡◌, Bool, ◌&&◌, length, get_or}
use Rattle.std.proofs.Math.Path.{refl, sym}
use Rattle.std.proofs.Common.{ap, ◌∙◌}
use Rattle.std.proofs.Math.Bool.{true, false, cond}
use mathlib.Core.List.{List, [], ◌∷◌}
use native.Mathlib.Omega.{arith}
use Rattle.std.proofs.Math.Nat.{pos_of_ne-zero}
use Rattle.std.proofs.Math.ListN.{length-set}
use Rattle.std.proofs.Math.Dec.{eqb}
use borrow.Author.Tests.{eqb-true, eq-eqb, ne_eqb}
use Rattle.laws.specs.Bools.{bit, clash, and_left, and_both}
use Rattle.laws.specs.Map.{map_from}
use Rattle.laws.specs.Runs.{sum_by}
use Rattle.laws.specs.Each.{Each, Both, each_map, both_length}
use Rattle.laws.specs.Indices.{length_map_from}
use Rattle.numbers.specs.Units.{parts, micros}
use Rattle.rules.specs.Supply.{Supply, Lawful}
use Rattle.numbers.specs.Slots.{free, waiting, playing, draining}
use Rattle.rules.specs.Scheduler.{Slot, Call, join, leave, begin, end, free_slot, waiting_slot}
use Rattle.rules.specs.Scheduler.{reads, lead_of, leads, low_water, joined, left, is_fetched, time_of, times, fetch_count, bound}
use Rattle.rules.specs.Scheduler.{swept_by, release_by, released, ended_slot, ended, most_drawn}
use Rattle.rules.specs.Order.{Scheduler, Order}
use Rattle.turns.specs.Facts.{Good, good_free, FreeFrom, Sound}
use Rattle.turns.specs.Moves.{join_keeps, leave_keeps}
use Rattle.turns.specs.Orderly.{Kept, SameWaiting, Floored, Orderly}
use Rattle.turns.specs.Sweeps.{kept_free, fetches_le, Drawable, Drawables, drawables_of}
use Rattle.turns.specs.Slots.{reads_kind, reading_lead, other_lead, fetched_other, fetched_kind, fetched_room, unfetched_full}
use Rattle.rules.specs.Calls.{Allowed, accepted}
use Rattle.safety.specs.Floors.{room_of_streams, fetched_stays, full_stays, sweep_within}

module _ {A : Type 0} (p : Supply A) where
  -- ---- begin

  kept_good : (L M : ℕ) (s t : Slot A) → Kept s t → (t.kind ≡ playing → low_water p M ≤ parts * t.buffered) → Good p L s → Good p M t
  kept_good L M s t k f g = record {
    kinds = omega (arith, k.bounded, g.kinds);
    zeros = λ z. let y : s.kind ≡ free = omega (arith, k.rises) in (k.next ∙ (g.zeros y).0, k.buffered ∙ (g.zeros y).1);
    empty = λ z. k.buffered ∙ g.empty (omega (arith, k.rises, k.occupied));
    named = λ x y. ap p.is_block k.next ∙ g.named (omega (arith, k.occupied)) (omega (arith, k.rises));
    past = λ z. ap p.is_end k.next ∙ g.past (omega (arith, k.rises, k.bounded, g.kinds));
    some = λ z. omega (arith, k.buffered, g.some (omega (arith, k.rises, k.bounded, g.kinds)));
    fits = omega (arith, k.buffered, g.fits);
    floored = f;
  }

  pub kept_goods : (L M : ℕ) (ss ts : List (Slot A)) → Both Kept ss ts → Floored p M ts → Each (Good p L) ss → Each (Good p M) ts
  kept_goods L M [] [] k f g = tt
  kept_goods L M [] (t ∷ ts) k f g = absurd k
  kept_goods L M (s ∷ ss) [] k f g = absurd k
  kept_goods L M (s ∷ ss) (t ∷ ts) k f g = (kept_good L M s t k.0 f.0 g.0, kept_goods L M ss ts k.1 f.1 g.1)

  module _ (ok : Lawful p) where
    -- ---- the sums of a sweep

    pub lead_le : (L : ℕ) (s : Slot A) → Good p L s → lead_of p s ≤ p.margin
    lead_le L s g = go (reads p s) refl
      where
        go : (t : Bool) → reads p s ≡ t → lead_of p s ≤ p.margin
        go true e =
            let k = reads_kind p s e in
            omega (arith, reading_lead p s k.0 k.1, ok.lead_top s.next (g.named (omega arith) k.1))
        go false e = unfold lead_of in rw e (omega arith)

    pub leads_le : (L m : ℕ) (ss : List (Slot A)) → Each (Good p L) ss → FreeFrom p m ss → leads p ss ≤ m * p.margin
    unfolding leads sum_by
    leads_le L m [] g u = omega arith
    leads_le L zero (s ∷ ss) g u =
        omega (arith, other_lead p s (λ a b. omega (arith, u 0 (omega arith))), leads_le L zero ss g.1 (λ i l. u (suc i) (omega arith)))
    leads_le L (suc m) (s ∷ ss) g u = omega (arith, lead_le L s g.0, leads_le L m ss g.1 (λ i l. u (suc i) (omega arith)))

    released_lead : (s : Slot A) → lead_of p (released p s) ≤ lead_of p s
    unfolding released lead_of reads
    released_lead s = go (eqb s.kind draining && eqb s.buffered 0)
      where
        go : (t : Bool) → lead_of p (release_by p t s) ≤ lead_of p s
        go true = omega arith
        go false = omega arith

    -- what a slot's fetch takes, and its lead afterwards
    swept_lead : (L : ℕ) (s : Slot A) (d : ℕ) → Good p L s
        → 2 * time_of p s + lead_of p (swept_by p (is_fetched p s) s d) ≤ lead_of p s + bit (is_fetched p s) * p.pair_time
    unfolding time_of swept_by
    swept_lead L s d g = go (is_fetched p s) refl
      where
        last : (t : Bool) → (2 ≤ s.kind) × (s.kind ≤ 3)
            → lead_of p (record { kind = cond t draining s.kind; next = p.next s.next; buffered = s.buffered - d + p.B }) ≤ cond t 0
            (p.lead (p.next s.next))
        last true k = unfold lead_of in unfold reads in omega arith
        last false k = omega (arith, reading_lead p (record { kind = s.kind; next = p.next s.next; buffered = s.buffered - d + p.B }) k.0 k.1)

        go : (f : Bool) → is_fetched p s ≡ f → 2 * cond f (p.time s.next) 0 + lead_of p (swept_by p f s d) ≤ lead_of p s + bit f * p.pair_time
        go true e =
            let k = fetched_kind p s e in
            omega (arith, reading_lead p s k.0 k.1, ok.lead_covers s.next (g.named (omega arith) k.1), last (p.is_end (p.next s.next)) k)
        go false e = unfold lead_of in unfold reads in omega arith

    leads_from : (L i : ℕ) (ss : List (Slot A)) (ds : List ℕ) → Each (Good p L) ss
        → 2 * times p ss + leads p (map_from (λ j s. ended_slot p s (get_or ds j 0)) i ss) ≤ leads p ss + fetch_count p ss * p.pair_time
    unfolding leads times fetch_count sum_by map_from ended_slot
    leads_from L i [] ds g = omega arith
    leads_from L i (s ∷ ss) ds g =
        omega (
          arith,
          swept_lead L s (get_or ds i 0) g.0,
          released_lead (swept_by p (is_fetched p s) s (get_or ds i 0)),
          leads_from L (suc i) ss ds g.1,
        )

    -- a sweep pays for its times out of the leads and half of worst2 for each fetch
    pub leads_after_law : (L : ℕ) (ss : List (Slot A)) (ds : List ℕ) → Each (Good p L) ss
        → 2 * times p ss + leads p (ended p ss ds) ≤ leads p ss + fetch_count p ss * p.pair_time
    unfolding ended
    leads_after_law L ss ds g = leads_from L 0 ss ds g

    pub room_of_law : (k : ℕ) → k ≤ p.n → p.c * (k * p.pair_time + 2 * p.overhead k + 0) ≤ parts * p.B
    room_of_law k kn = room_of_streams p.c p.n p.pair_time (p.overhead p.n) p.B k (p.overhead k) ok.streams_fit kn
        (ok.overhead_rises k p.n kn)

    -- a sweep over ss draws no more than its low-water mark
    pub bound_within : (ss : List (Slot A)) → FreeFrom p p.n ss → Each (Good p (leads p ss)) ss → 2 * (p.c * bound p ss) ≤ low_water p (leads p ss)
    unfolding bound low_water
    bound_within ss u h =
        let k = fetch_count p ss in
        sweep_within p.c p.pair_time p.B k (p.overhead k) (times p ss) (leads p ss) (leads p (ended p ss [])) 0
        (room_of_law k (fetches_le p p.n ss u)) (leads_after_law (leads p ss) ss [] h)

    -- so a playing slot holds what it may draw
    pub players_hold_draw : (ss : List (Slot A)) → FreeFrom p p.n ss → Each (Good p (leads p ss)) ss
        → Each (λ s. s.kind ≡ playing → most_drawn p ss ≤ s.buffered) ss
    unfolding most_drawn
    players_hold_draw ss u h = each_map _ _ ss (λ s g e. omega (arith, bound_within ss u h, g.floored e)) h

    -- ---- end

    -- a slot after its sweep, before a tail that holds 0 becomes free
    pub record Swept (L : ℕ) (s : Slot A) : Type 0 where
      pub kinds : s.kind ≤ 4
      pub zeros : s.kind ≡ free → (s.next ≡ p.none) × (s.buffered ≡ 0)
      pub empty : s.kind ≡ waiting → s.buffered ≡ 0
      pub named : 1 ≤ s.kind → s.kind ≤ 3 → p.is_block s.next ≡ true
      pub past : s.kind ≡ draining → p.is_end s.next ≡ true
      pub fits : s.buffered ≤ p.buffer
      pub floored : s.kind ≡ playing → low_water p L ≤ parts * s.buffered

    released_good : (L : ℕ) (s : Slot A) → Swept L s → Good p L (released p s)
    unfolding released
    released_good L s w = go (eqb s.kind draining && eqb s.buffered 0) refl
      where
        go : (t : Bool) → (eqb s.kind draining && eqb s.buffered 0) ≡ t → Good p L (release_by p t s)
        go true e = good_free p L
        go false e = record {
          kinds = w.kinds;
          zeros = w.zeros;
          empty = w.empty;
          named = w.named;
          past = w.past;
          some = λ k. pos_of_ne-zero (λ z. clash (and_both (eq-eqb s.kind draining k) (eq-eqb s.buffered 0 z)) e);
          fits = w.fits;
          floored = w.floored;
        }

    -- a sweep of k fetches that take T; L and M are the leads before and after it
    module _ (k T L M : ℕ) (few : k ≤ p.n) (paid : 2 * T + M ≤ L + k * p.pair_time) (top : L ≤ p.n * p.margin) where
      abbrev most : ℕ
      most = p.c * (T + p.overhead k) / micros

      pub swept_of_law : (s : Slot A) (d : ℕ) → Good p L s → Drawable p most s d → Swept M (swept_by p (is_fetched p s) s d)
      unfolding swept_by low_water
      swept_of_law s d g w = go (is_fetched p s) refl
        where
          last : (t : Bool) → p.is_end (p.next s.next) ≡ t → is_fetched p s ≡ true
              → Swept M (record { kind = cond t draining s.kind; next = p.next s.next; buffered = s.buffered - d + p.B })
          last true e f = record {
            kinds = omega arith;
            zeros = λ y. absurd (omega arith);
            empty = λ y. absurd (omega arith);
            named = λ _ y. absurd (omega arith);
            past = λ _. e;
            fits = omega (arith, fetched_room p s f);
            floored = λ y. absurd (omega arith);
          }
          last false e f =
              let q = fetched_kind p s f in
              record {
                kinds = omega arith;
                zeros = λ y. absurd (omega arith);
                empty = λ y. absurd (omega arith);
                named = λ _ _. ok.next_block s.next (g.named (omega arith) (omega arith)) e;
                past = λ y. absurd (omega arith);
                fits = omega (arith, fetched_room p s f);
                floored = λ y. omega (
                  arith,
                  (fetched_stays p.c p.pair_time p.B k (p.overhead k) T L M 0 (room_of_law k few) paid s.buffered d (g.floored y) w.most).1,
                );
              }

          go : (f : Bool) → is_fetched p s ≡ f → Swept M (swept_by p f s d)
          go true f = last (p.is_end (p.next s.next)) refl f
          go false f = record {
            kinds = g.kinds;
            zeros = λ z. ((g.zeros z).0, omega (arith, (g.zeros z).1));
            empty = λ z. omega (arith, g.empty z);
            named = g.named;
            past = g.past;
            fits = omega (arith, g.fits);
            floored = λ z. omega (
              arith,
              (full_stays p.c p.pair_time p.B k (p.overhead k) T L M 0 (room_of_law k few) paid p.n p.margin s.buffered d
                  (omega (arith, top)) (omega (arith, ok.buffer_holds, unfetched_full p s z f)) w.most).1,
            );
          }

      goods_ended : (i : ℕ) (ss : List (Slot A)) (ds : List ℕ) → Each (Good p L) ss → Drawables p most ds i ss
          → Each (Good p M) (map_from (λ j s. ended_slot p s (get_or ds j 0)) i ss)
      unfolding map_from ended_slot
      goods_ended i [] ds g w = tt
      goods_ended i (s ∷ ss) ds g w = (
        released_good M _ (swept_of_law s (get_or ds i 0) g.0 w.0),
        goods_ended (suc i) ss ds g.1 w.1,
      )

    free_ended : (m i : ℕ) (ss : List (Slot A)) (ds : List ℕ) → FreeFrom p m ss → FreeFrom p m (map_from (λ j s. ended_slot p s (get_or ds j 0)) i ss)
    unfolding map_from ended_slot
    free_ended m i [] ds u j l = refl
    free_ended m i (s ∷ ss) ds u zero l = let k = u 0 l in unfold swept_by in unfold released in rw (fetched_other p s (λ a b. omega arith), k)
    free_ended zero i (s ∷ ss) ds u (suc j) l = free_ended zero (suc i) ss ds (λ x y. u (suc x) (omega arith)) j (omega arith)
    free_ended (suc m) i (s ∷ ss) ds u (suc j) l = free_ended m (suc i) ss ds (λ x y. u (suc x) (omega arith)) j (omega arith)

    -- an end makes no slot ask, and takes none that asks
    released_waits : (s : Slot A) → SameWaiting s (released p s)
    unfolding released
    released_waits s = go (eqb s.kind draining && eqb s.buffered 0) refl
      where
        go : (t : Bool) → (eqb s.kind draining && eqb s.buffered 0) ≡ t → SameWaiting s (release_by p t s)
        go true e = let k = eqb-true s.kind draining (and_left (eqb s.kind draining) _ e) in rw k
        go false e = refl

    swept_waits : (s : Slot A) (d : ℕ) → SameWaiting s (swept_by p (is_fetched p s) s d)
    unfolding swept_by
    swept_waits s d = go (is_fetched p s) refl
      where
        last : (t : Bool) → 2 ≤ s.kind → eqb (cond t draining s.kind) waiting ≡ eqb s.kind waiting
        last true k = sym (ne_eqb s.kind waiting (λ e. omega arith))
        last false k = refl

        go : (f : Bool) → is_fetched p s ≡ f → SameWaiting s (swept_by p f s d)
        go true e = last (p.is_end (p.next s.next)) (fetched_kind p s e).0
        go false e = refl

    ended_waits : (i : ℕ) (ss : List (Slot A)) (ds : List ℕ) → Both SameWaiting ss (map_from (λ j s. ended_slot p s (get_or ds j 0)) i ss)
    unfolding map_from ended_slot
    ended_waits i [] ds = tt
    ended_waits i (s ∷ ss) ds = (
      released_waits (swept_by p (is_fetched p s) s (get_or ds i 0)) ∙ swept_waits s (get_or ds i 0),
      ended_waits (suc i) ss ds,
    )

    -- ---- every call

    module _ {Q : Type 0} (o : Order A Q) (orderly : Orderly p o) where
      -- an accepted call keeps the record sound
      pub accepted_keeps : (d : Scheduler A Q) (c : Call A) → Sound p o d → Allowed p o d c → Sound p o (accepted p o d c).scheduler
      unfolding accepted ended most_drawn bound
      accepted_keeps d (join i b) h a = join_keeps p o orderly d i b h a
      accepted_keeps d (leave i) h a = leave_keeps p o orderly d i h a
      accepted_keeps d begin h a =
          let ss = d.slots in
          let ts = (o.begins d.queue ss).slots in
          let b = orderly.began d.queue ss h.slots in
          record {
            phase = omega arith;
            slots = kept_goods (leads p ss) (leads p ts) ss ts b.kept b.floored h.slots;
            unused = kept_free p p.n ss ts b.kept h.unused;
            queue = orderly.queue_begun d.queue ss h.slots h.queue;
          }
      accepted_keeps d (end ds) h a =
          let ss = d.slots in
          let m : ℕ = most_drawn p ss in
          let w : Drawables p m ds 0 ss = drawables_of p m ds 0 ss a.2 a.3 in
          record {
            phase = omega arith;
            slots = goods_ended (fetch_count p ss) (times p ss) (leads p ss) (leads p (ended p ss ds)) (fetches_le p p.n ss h.unused)
                (leads_after_law (leads p ss) ss ds h.slots) (leads_le (leads p ss) p.n ss h.slots h.unused) 0 ss ds h.slots w;
            unused = free_ended p.n 0 ss ds h.unused;
            queue = orderly.queue_ended d.queue ss (ended p ss ds) (ended_waits 0 ss ds) h.queue;
          }

      -- and all its slots
      pub accepted_length : (d : Scheduler A Q) (c : Call A) → Sound p o d → length (accepted p o d c).scheduler.slots ≡ length d.slots
      unfolding accepted joined left ended
      accepted_length d (join i b) h = length-set d.slots i (waiting_slot p b)
      accepted_length d (leave i) h = length-set d.slots i (free_slot p)
      accepted_length d begin h = both_length Kept d.slots _ (orderly.began d.queue d.slots h.slots).kept
      accepted_length d (end ds) h = length_map_from (λ j s. ended_slot p s (get_or ds j 0)) 0 d.slots
