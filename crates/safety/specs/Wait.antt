-- Document 02, ticket 5: a request that stays is granted in time (T5.7).
-- Assumes nothing.
use Prim.Native.Nat.{ℕ, zero, suc, ◌+◌, ◌*◌, ◌-◌, ◌≤◌, ◌<◌, min}
use Rattle.std.specs.Prelude.{◌≡◌, ◌≢◌, Bool, cond, ◌&&◌, set}
use Rattle.std.proofs.Math.Path.{refl, ap}
use Rattle.std.proofs.Common.{sym, ◌∙◌}
use Rattle.std.proofs.Math.Logic.{by_cases}
use Rattle.std.proofs.Math.Bool.{true, false}
use mathlib.Core.List.{List, [], ◌∷◌, map}
use native.Mathlib.Omega.{arith}
use Rattle.std.proofs.Math.Nat.{mul-le-mul_left, mul-le-mul_right}
use Rattle.std.proofs.Math.Decide.{dec_lt, ℕ_discrete}
use Rattle.std.proofs.Math.ListN.{length, get_or}
use Rattle.std.proofs.Math.Dec.{eqb}
use borrow.Author.Tests.{eqb-false, eq-eqb}
use Rattle.laws.specs.Bools.{bit, is_false, and_both}
use Rattle.laws.specs.Map.{map_from}
use Rattle.laws.specs.Each.{each_set, each_at, each_map}
use Rattle.numbers.specs.Slots.{free, waiting, filling}
use Rattle.rules.specs.Supply.{Supply, Lawful}
use Rattle.rules.specs.Scheduler.{Slot, Call, join, leave, begin, end, free_slot, waiting_slot, at, leads, low_water, joined, left, started, grantable}
use Rattle.rules.specs.Scheduler.{swept_by, released, ended_slot, ended, most_drawn}
use Rattle.rules.specs.Order.{Scheduler, Order, dropped, waiting_count, eldest_lead, by_place}
use Rattle.rules.specs.Calls.{State, Rules, Allowed, is_accepted, is_end_call, accepted, opening, answer_by, answer, turn, after}
use Rattle.turns.specs.Moves.{leads_set}
use Rattle.turns.specs.Facts.{Good, good_free, Sound}
use Rattle.turns.specs.Slots.{other_lead, fetched_other}
use Rattle.turns.specs.Turns.{started_leads}
use Rattle.turns.specs.Strict.{Strict}
use Rattle.turns.specs.Orderly.{Floored}
use Rattle.turns.specs.Begins.{started_floored}
use Rattle.turns.specs.Sweeps.{drawables_of}
use Rattle.turns.specs.Places.{set_past, get_self, get_other, get_map, drop_less, in_range, Places}
use Rattle.turns.specs.ByPlace.{queue_places, by_place_orderly}
use Rattle.turns.specs.Eldest.{eldest_here, eldest_lead_law, started_asked, served_yes, served_no}
use Rattle.safety.specs.Gain.{gain, players_of_floored, floored_lower, sweep_gains}
use Rattle.safety.specs.Lists.{InStep, turn_keeps, every_list_in_step}

module _ {A X : Type 0} (p : Supply A) (u : Rules A (List ℕ) X) where
  -- an accepted end finishes a sweep
  unfoldable pub finishes : State A (List ℕ) → X → Bool
  finishes v x = is_accepted (u.verdict v.scheduler x).number && is_end_call (u.move x)

  -- the finished sweeps of a list
  unfoldable pub sweeps : State A (List ℕ) → List X → ℕ
  sweeps v [] = 0
  sweeps v (x ∷ xs) = bit (finishes v x) + sweeps (turn p (by_place p) u v x) xs

  -- slot i asks after each call of a list: its request stays, and is not granted yet
  abbrev pub Stays : ℕ → State A (List ℕ) → List X → Type 0
  Stays i v [] = Unit {0}
  Stays i v (x ∷ xs) = let w = turn p (by_place p) u v x in ((at p w.scheduler.slots i).kind ≡ waiting) × Stays i w xs

-- ---- a slot that asks keeps its block through an end

module _ {A : Type 0} (p : Supply A) where
  ended_asked : (i : ℕ) (ss : List (Slot A)) (ds : List ℕ) (j : ℕ) → (at p ss j).kind ≡ waiting
      → (at p (map_from (λ j s. ended_slot p s (get_or ds j 0)) i ss) j).next ≡ (at p ss j).next
  unfolding map_from ended_slot swept_by released
  ended_asked i [] ds j z = refl
  ended_asked i (s ∷ ss) ds zero z = rw (fetched_other p s (λ a b. omega arith), z)
  ended_asked i (s ∷ ss) ds (suc j) z = ended_asked (suc i) ss ds j z

  ended_next : (ss : List (Slot A)) (ds : List ℕ) (i : ℕ) → (at p ss i).kind ≡ waiting → (at p (ended p ss ds) i).next ≡ (at p ss i).next
  unfolding ended
  ended_next ss ds i z = ended_asked 0 ss ds i z

-- ---- the eldest stays the eldest where another leaves

still_first : (q : List ℕ) (i j : ℕ) → i ≢ j → get_or q i 0 ≡ 1 → ((a b : ℕ) → 0 < get_or q a 0 → get_or q a 0 ≡ get_or q b 0 → a ≡ b)
    → get_or (cond (eqb (get_or q j 0) 0) q (map (dropped (get_or q j 0)) q)) i 0 ≡ 1
still_first q i j n f apart = go (eqb (get_or q j 0) 0) refl
  where
    go : (t : Bool) → eqb (get_or q j 0) 0 ≡ t → get_or (cond t q (map (dropped (get_or q j 0)) q)) i 0 ≡ 1
    go true e = f
    go false e =
        let m : get_or q j 0 ≢ 0 = eqb-false (get_or q j 0) 0 e in
        let l : get_or q j 0 ≢ 1 = λ z. n (apart i j (omega arith) (f ∙ sym z)) in
        get_map (dropped (get_or q j 0)) q i (drop_less (get_or q j 0) 0 (omega arith)) ∙ drop_less (get_or q j 0) (get_or q i 0) (omega arith) ∙ f

module _ {A : Type 0} (p : Supply A) (ok : Lawful p) where
  abbrev o : Order A (List ℕ)
  o = by_place p

  abbrev places_of : (d : Scheduler A (List ℕ)) → Sound p o d → Places p d.slots d.queue
  places_of d h = queue_places p d.queue d.slots h.queue

  -- the lead of a slot that asks is at most the margin
  lead_top : (d : Scheduler A (List ℕ)) (i : ℕ) → Sound p o d → (at p d.slots i).kind ≡ waiting → p.lead (at p d.slots i).next ≤ p.margin
  lead_top d i h k =
      let ss = d.slots in
      let g = each_at (Good p (leads p ss)) ss i (free_slot p) h.slots (good_free p (leads p ss)) in
      ok.lead_top (at p ss i).next (g.named (omega (arith, k)) (omega (arith, k)))

  -- slot i has place 1 and lead E, and the playing slots are x above the floor
  record Waits (i E x : ℕ) (d : Scheduler A (List ℕ)) : Type 0 where
    first : get_or d.queue i 0 ≡ 1
    lead : p.lead (at p d.slots i).next ≡ E
    ready : Floored p (leads p d.slots + x) d.slots

  -- slot j is replaced by a that does not play and has no lead
  set_ready : (ss : List (Slot A)) (x j : ℕ) (a : Slot A) → a.kind ≤ waiting → Floored p (leads p ss + x) ss
      → Floored p (leads p (set ss j a) + x) (set ss j a)
  set_ready ss x j a k f =
      floored_lower p (leads p ss + x) (leads p (set ss j a) + x) (set ss j a) (omega (arith, leads_set p ss j a (other_lead p a (λ u w. omega arith))))
      (each_set _ ss j a f (λ y. absurd (omega arith)))

  -- how far above the floor a call leaves them
  abbrev further : Bool → ℕ → ℕ → ℕ
  further true E x = x + min (gain p) (E - x)
  further false E x = x

  -- ---- an accepted call after which the eldest still asks

  module _ (i E x : ℕ) (d : Scheduler A (List ℕ)) (h : Sound p o d) (some : 0 < length d.slots) (k : (at p d.slots i).kind ≡ waiting) (w : Waits i E x d)
      (le : x ≤ E) where
    abbrev ss : List (Slot A)
    ss = d.slots

    abbrev q : List ℕ
    q = d.queue

    -- what filling slots must hold to play, and the slots after that
    abbrev mark : ℕ
    mark = low_water p (leads p ss + eldest_lead p ss q)

    abbrev rs : List (Slot A)
    rs = started p mark ss

    eldest_lead_is : eldest_lead p ss q ≡ E
    eldest_lead_is = eldest_lead_law p ss q i (eldest_here p ss q i (places_of d h) w.first) k ∙ w.lead

    -- starting to play takes nobody below
    started_ready : Floored p (leads p ss + x) rs
    started_ready = started_floored p mark (leads p ss + x) ss (unfold low_water in rw eldest_lead_is (omega (arith, mul-le-mul_left p.c le))) w.ready

    join_waits : (j : ℕ) (b : A) → (at p ss j).kind ≡ free → Waits i E x (accepted p o d (join j b)).scheduler
    unfolding accepted by_place joined
    join_waits j b f = by_cases (dec_lt j (length ss))
        (λ r. record {
          first = get_other q j i (waiting_count p ss + 1) 0 (omega (arith, (places_of d h).long)) other ∙ w.first;
          lead = ap (λ (t : Slot A). p.lead t.next) (get_other ss j i (waiting_slot p b) (free_slot p) r other) ∙ w.lead;
          ready = set_ready ss x j (waiting_slot p b) (omega arith) w.ready;
        })
        (λ r. record {
          first = ap (λ (t : List ℕ). get_or t i 0) (set_past q j (waiting_count p ss + 1) (omega (arith, (places_of d h).long))) ∙ w.first;
          lead = ap (λ (t : List (Slot A)). p.lead (at p t i).next) (set_past ss j (waiting_slot p b) (omega arith)) ∙ w.lead;
          ready = set_ready ss x j (waiting_slot p b) (omega arith) w.ready;
        })
      where
        other : i ≢ j
        other e = omega (arith, k, f, ap (λ (t : ℕ). (at p ss t).kind) e)

    leave_waits : (j : ℕ) → 0 < (at p ss j).kind → (at p (left p ss j) i).kind ≡ waiting → Waits i E x (accepted p o d (leave j)).scheduler
    unfolding accepted by_place left
    leave_waits j f still = record {
      first = still_first q i j other w.first (places_of d h).apart;
      lead = ap (λ (t : Slot A). p.lead t.next) (get_other ss j i (free_slot p) (free_slot p) r other) ∙ w.lead;
      ready = set_ready ss x j (free_slot p) (omega arith) w.ready;
    }
      where
        r : j < length ss
        r = in_range p ss j f

        other : i ≢ j
        other e =
            let gone = ap (λ (t : Slot A). t.kind) (get_self ss j (free_slot p) (free_slot p) r) in
            omega (arith, still, ap (λ (t : ℕ). (at p (set ss j (free_slot p)) t).kind) e, gone)

    begin_waits : (at p (accepted p o d begin).scheduler.slots i).kind ≡ waiting → Waits i E x (accepted p o d begin).scheduler
    unfolding accepted by_place
    begin_waits still =
        let el = eldest_here p ss q i (places_of d h) w.first in
        let no = is_false (grantable p rs i) (λ g. omega (arith, still, served_yes p (length ss) rs q i some el g)) in
        let (a, b) = served_no p (length ss) rs q (ap (grantable p rs) el ∙ no) in
        record {
          first = ap (λ (t : List ℕ). get_or t i 0) b ∙ w.first;
          lead = ap (λ (t : List (Slot A)). p.lead (at p t i).next) a ∙ ap (λ (t : Slot A). p.lead t.next) (started_asked p mark ss i k) ∙ w.lead;
          ready = rw (a, started_leads p mark ss) started_ready;
        }

    end_waits : (ds : List ℕ) → Allowed p o d (end ds) → Waits i E (further true E x) (accepted p o d (end ds)).scheduler
    unfolding accepted
    end_waits ds a = record {
      first = w.first;
      lead = ap p.lead (ended_next p ss ds i k) ∙ w.lead;
      ready = sweep_gains p ok i x (min (gain p) (E - x)) ss ds k h.unused h.slots (drawables_of p (most_drawn p ss) ds 0 ss a.2 a.3) (omega arith)
          (omega (arith, lead_top d i h k, w.lead)) w.ready;
    }

    accepted_waits : (c : Call A) → Allowed p o d c → (at p (accepted p o d c).scheduler.slots i).kind ≡ waiting
        → Waits i E (further (is_end_call c) E x) (accepted p o d c).scheduler
    accepted_waits (join j b) a still = join_waits j b a.2
    accepted_waits (leave j) a still = leave_waits j a.2 (unfold accepted in still)
    accepted_waits begin a still = begin_waits still
    accepted_waits (end ds) a still = end_waits ds a

    -- who has all of its lead is granted at a begin
    ready_granted : x ≡ E → (at p (accepted p o d begin).scheduler.slots i).kind ≡ filling
    unfolding accepted by_place grantable
    ready_granted e =
        let el = eldest_here p ss q i (places_of d h) w.first in
        let same = started_asked p mark ss i k in
        let held = players_of_floored p (leads p ss + x) rs started_ready in
        served_yes p (length ss) rs q i some el
        (and_both (ap (λ (t : Slot A). eqb t.kind waiting) same ∙ eq-eqb (at p ss i).kind waiting k)
        (rw (started_leads p mark ss, same, w.lead, ← e) held))

  -- ---- lists

  module _ {X : Type 0} (u : Rules A (List ℕ) X) (us : Strict p o u) where
    abbrev Kept : State A (List ℕ) → Type 0
    Kept v = InStep p ok o (by_place_orderly p) v

    -- after a list: the desk is in step, slot i asks and is the eldest
    record Eldest (i E x : ℕ) (v : State A (List ℕ)) : Type 0 where
      step : Kept v
      asked : (at p v.scheduler.slots i).kind ≡ waiting
      waits : Waits i E x v.scheduler
      some : x ≤ E

    turn_waits : (i E y : ℕ) (v : State A (List ℕ)) (x : X) → Eldest i E y v → (at p (turn p o u v x).scheduler.slots i).kind ≡ waiting
        → Eldest i E (further (finishes p u v x) E y) (turn p o u v x)
    unfolding finishes turn answer
    turn_waits i E y v x h k = record {
      step = unfold turn in unfold answer in turn_keeps p ok o (by_place_orderly p) u us v x h.step;
      asked = k;
      waits = go (u.verdict v.scheduler x).number refl k;
      some = less (is_accepted (u.verdict v.scheduler x).number && is_end_call (u.move x));
    }
      where
        less : (t : Bool) → further t E y ≤ E
        less true = omega (arith, h.some)
        less false = h.some

        go : (n : ℕ) → (u.verdict v.scheduler x).number ≡ n
            → (let d = (answer_by p o u n (u.verdict v.scheduler x).place v.scheduler x).scheduler in
            (at p d.slots i).kind ≡ waiting → Waits i E (further (is_accepted n && is_end_call (u.move x)) E y) d)
        go zero e z =
            accepted_waits i E y v.scheduler h.step.sound (omega (arith, h.step.long)) h.asked h.waits h.some (u.move x)
            (us.strict v.scheduler x e) z
        go (suc n) e z = h.waits

    -- each finished sweep adds the gain, until the lead is there
    list_waits : (xs : List X) (i E y : ℕ) (v : State A (List ℕ)) → Eldest i E y v → Stays p u i v xs
        → (z : ℕ) × (min E (y + sweeps p u v xs * gain p) ≤ z) × Eldest i E z (after p o u v xs)
    unfolding after sweeps
    list_waits [] i E y v h s = (y, omega arith, h)
    list_waits (x ∷ xs) i E y v h s =
        go (finishes p u v x) (list_waits xs i E (further (finishes p u v x) E y) (turn p o u v x) (turn_waits i E y v x h s.0) s.1)
      where
        go : (t : Bool) → (z : ℕ) × (min E (further t E y + sweeps p u (turn p o u v x) xs * gain p) ≤ z) × Eldest i E z (after p o u (turn p o u v x) xs)
            → (z : ℕ) × (min E (y + (bit t + sweeps p u (turn p o u v x) xs) * gain p) ≤ z) × Eldest i E z (after p o u (turn p o u v x) xs)
        go true (z, l, r) = (z, omega arith, r)
        go false (z, l, r) = (z, omega arith, r)

    -- A REQUEST THAT STAYS IS GRANTED: slot i is the eldest after xs and asks after each call of ys, which finish G sweeps. An accepted begin
    -- then grants it
    pub granted_by : (G : ℕ) → p.margin ≤ G * gain p → (xs ys : List X) (i : ℕ) → (let v = after p o u (opening p o) xs in
        get_or v.scheduler.queue i 0 ≡ 1 → Stays p u i v ys → G ≤ sweeps p u v ys
        → (b : X) → u.move b ≡ begin → (let a = answer p o u (after p o u v ys).scheduler b in a.number ≡ 0 → (at p a.scheduler.slots i).kind ≡ filling))
    unfolding answer
    granted_by G big xs ys i f s g b mb =
        let v = after p o u (opening p o) xs in
        let ss = v.scheduler.slots in
        let h = every_list_in_step p ok o (by_place_orderly p) u us xs in
        let k = asks v h f in
        let E : ℕ = p.lead (at p ss i).next in
        let ready = floored_lower p (leads p ss) (leads p ss + 0) ss (omega arith) (each_map _ _ ss (λ t z. z.floored) h.sound.slots) in
        let start : Eldest i E 0 v = record { step = h; asked = k; waits = record { first = f; lead = refl; ready = ready }; some = omega arith } in
        let (z, l, r) = list_waits ys i E 0 v start s in
        grants (after p o u v ys) E z (omega (arith, l, r.some, lead_top v.scheduler i h.sound k, mul-le-mul_right (gain p) g)) r
        (u.verdict (after p o u v ys).scheduler b).number (u.verdict (after p o u v ys).scheduler b).place
      where
        -- who has a place asks
        asks : (v : State A (List ℕ)) → Kept v → get_or v.scheduler.queue i 0 ≡ 1 → (at p v.scheduler.slots i).kind ≡ waiting
        asks v h f = by_cases (ℕ_discrete (at p v.scheduler.slots i).kind waiting) (λ k. k)
            (λ n. omega (arith, f, (places_of v.scheduler h.sound).idle i n))

        grants : (v : State A (List ℕ)) (E z : ℕ) → z ≡ E → Eldest i E z v → (n m : ℕ) → (answer_by p o u n m v.scheduler b).number ≡ 0
            → (at p (answer_by p o u n m v.scheduler b).scheduler.slots i).kind ≡ filling
        grants v E z q h zero m e =
            rw mb (ready_granted i E z v.scheduler h.step.sound (omega (arith, h.step.long)) h.asked h.waits h.some q)
        grants v E z q h (suc n) m e = absurd (omega arith)
