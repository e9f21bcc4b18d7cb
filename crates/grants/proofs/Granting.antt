-- Asked slots are granted in the order of their places: the eldest, and one turn of the loop.
-- Assumes nothing.
use Prim.Native.Nat.{ℕ, zero, suc, ◌+◌, ◌*◌, ◌-◌, ◌≤◌, ◌<◌}
use mathlib.Core.Path.{◌≡◌, refl, sym, ap, ap₂, subst, ◌∙◌}
use mathlib.Core.Logic.{◌≢◌, by_cases}
use mathlib.Core.Bool.{true, false}
use mathlib.Core.List.{List, map}
use native.Mathlib.Omega.{arith}
use native.Mathlib.Decide.{ℕ_discrete}
use native.Mathlib.Numerals.{add-one}
use lib.ListN.{length, get_or, set}
use lib.Dec.{leb}
use borrow.Author.Tests.{eq-eqb, ne_eqb, le-leb, lt-leb}
use Rattle.numbers.specs.Slots.{waiting, filling}
use Rattle.numbers.specs.Units.{parts}
use Rattle.rules.specs.Supply.{Supply}
use Rattle.rules.specs.Scheduler.{Slot, at, leads, low_water, players_hold, filling_slot, grantable, granted}
use Rattle.rules.specs.Order.{eldest, dropped, eldest_lead, served}
use Rattle.rules.specs.Arrays.{slots_of}
use Rattle.turns.specs.ArrayLaws.{slot_at, slots_set_kind}
use Rattle.turns.specs.Turns.{granted_leads, granted_players, least_holds}
use Rattle.turns.specs.Places.{get_map, eldest_le, Places, places_gone}
use Rattle.turns.specs.Served.{dropped_by, drop_next, drop_none}
use Rattle.floor.specs.Floor.{ample}
use Rattle.desk.specs.Shown.{Slots}
use Rattle.grants.specs.Grants.{Asked, Asks, served_to}
use Rattle.grants.specs.Line.{Lined}
use Rattle.grants.proofs.Starting.{same}

module _ (p : Supply ℕ) (ss : List (Slot ℕ)) (qs : List ℕ) (q : Places p ss qs) where
  -- who has a place asks
  pub placed_asks : (i : ℕ) → 0 < get_or qs i 0 → (at p ss i).kind ≡ waiting
  placed_asks i h = by_cases (ℕ_discrete (at p ss i).kind waiting) (λ e. e) (λ e. absurd (omega (arith, q.idle i e)))

  -- the eldest has place 1
  pub eldest_at : (i : ℕ) → get_or qs i 0 ≡ 1 → eldest qs ≡ i
  eldest_at i e = let f = (eldest_le qs i e).1 in q.apart (eldest qs) i (omega arith) (f ∙ sym e)

  pub lead_of_eldest : (i : ℕ) → get_or qs i 0 ≡ 1 → eldest_lead p ss qs ≡ p.lead (at p ss i).next
  unfolding eldest_lead
  lead_of_eldest i e = rw (eldest_at i e, eq-eqb (at p ss i).kind waiting (placed_asks i (omega arith)))

  -- nobody asks where no place is taken
  idle_eldest : ((i : ℕ) → get_or qs i 0 ≡ 0) → (at p ss (eldest qs)).kind ≢ waiting
  idle_eldest h k = omega (arith, q.named (eldest qs) k, h (eldest qs))

  pub lead_of_none : ((i : ℕ) → get_or qs i 0 ≡ 0) → eldest_lead p ss qs ≡ 0
  unfolding eldest_lead
  lead_of_none h = rw (ne_eqb (at p ss (eldest qs)).kind waiting (idle_eldest h))

  -- ---- what is served next: nobody, where nobody asks or the eldest has to wait; else the eldest

  served_stays : (k : ℕ) → grantable p ss (eldest qs) ≡ false → served p k ss qs ≡ served_to ss qs
  unfolding served
  served_stays zero e = refl
  served_stays (suc k) e = rw e

  pub served_none : (k : ℕ) → ((i : ℕ) → get_or qs i 0 ≡ 0) → served p k ss qs ≡ served_to ss qs
  unfolding grantable
  served_none k h = served_stays k (unfold grantable in rw (ne_eqb (at p ss (eldest qs)).kind waiting (idle_eldest h)))

  module _ (i : ℕ) (e : get_or qs i 0 ≡ 1) where
    tested : grantable p ss (eldest qs) ≡ players_hold p (low_water p (leads p ss + p.lead (at p ss i).next)) ss
    unfolding grantable
    tested = rw (eldest_at i e, eq-eqb (at p ss i).kind waiting (placed_asks i (omega arith)))

    pub served_waits : (k : ℕ) → players_hold p (low_water p (leads p ss + p.lead (at p ss i).next)) ss ≡ false → served p k ss qs ≡ served_to ss qs
    served_waits k h = served_stays k (tested ∙ h)

    pub served_next : (k : ℕ) → players_hold p (low_water p (leads p ss + p.lead (at p ss i).next)) ss ≡ true
        → served p (suc k) ss qs ≡ served p k (granted p ss i) (map (dropped 1) qs)
    unfolding served
    served_next k h = rw (tested ∙ h, eldest_at i e)

    pub placed_next : Places p (granted p ss i) (map (dropped 1) qs)
    unfolding granted
    placed_next = places_gone p ss qs i (filling_slot p (at p ss i)) 1 q (placed_asks i (omega arith)) (λ z. omega arith) e

-- ---- the line

module _ (p : Supply ℕ) (g : ℕ → ℕ) (n : ℕ) (ks xs hs qs line : List ℕ) (count : ℕ) (w : Slots p n ks xs hs) (a : Asked p g ks xs hs qs)
    (o : Lined qs line count) where
  abbrev slots : List (Slot ℕ)
  slots = slots_of p ks xs hs

  -- the lead of the slot at place k
  own_lead : (k : ℕ) → 0 < k → k ≤ count → get_or line k 0 < 256 → g (get_or line k 0) ≡ p.lead (at p slots (get_or line k 0)).next
  own_lead k h m l =
      let i = get_or line k 0 in
      let s = slot_at p ks xs hs w.same i in
      a.own i l (sym (ap (λ (s : Slot ℕ). s.kind) s) ∙ placed_asks p slots qs a.places i (omega (arith, o.slot k h m)))
      ∙ ap (λ (s : Slot ℕ). p.lead s.next) (sym s)

  pub eldest_none : count ≡ 0 → 0 ≡ eldest_lead p slots qs
  eldest_none e = sym (lead_of_none p slots qs a.places (λ i. omega (arith, o.all i)))

  pub eldest_first : 0 < count → get_or line 1 0 < 256 → g (get_or line 1 0) ≡ eldest_lead p slots qs
  eldest_first h l =
      own_lead 1 (omega arith) (omega arith) l
      ∙ sym (lead_of_eldest p slots qs a.places (get_or line 1 0) (o.slot 1 (omega arith) (omega arith)))

-- ---- the loop: the first r of the line are granted, the kinds are ks, and mark is the low-water mark then

module _ (p : Supply ℕ) (c floor level : ℕ) (g : ℕ → ℕ) (n : ℕ) (ks₀ xs hs qs line : List ℕ) (count : ℕ) (w : Slots p n ks₀ xs hs)
    (a : Asks p c floor level g ks₀ xs hs qs) (o : Lined qs line count) where
  abbrev before : List (Slot ℕ)
  before = slots_of p ks₀ xs hs

  pub record Granted (ks : List ℕ) (mark r : ℕ) : Type 0 where
    pub rest : served p (256 - r) (slots_of p ks xs hs) (dropped_by r qs) ≡ served p 256 before qs
    pub low : mark ≡ low_water p (leads p (slots_of p ks xs hs))
    pub players : (x : ℕ) → players_hold p x (slots_of p ks xs hs) ≡ players_hold p x before
    pub places : Places p (slots_of p ks xs hs) (dropped_by r qs)

  pub none_granted : Granted ks₀ floor 0
  none_granted = record {
    rest = ap (served p 256 before) (drop_none qs);
    low = a.mark;
    players = λ x. refl;
    places = subst (Places p before) (sym (drop_none qs)) a.asked.places;
  }

  -- all of the line are granted
  pub all_granted : (ks : List ℕ) (mark r : ℕ) → Granted ks mark r → r ≡ count → served p 256 before qs ≡ served_to (slots_of p ks xs hs) (dropped_by r qs)
  all_granted ks mark r inv e =
      sym inv.rest
      ∙ served_none p _ _ inv.places (256 - r) (λ i. get_map (λ x. x - r) qs i (omega arith) ∙ omega (arith, o.all i))

  -- the next one, slot i
  module _ (ks : List ℕ) (long : length ks ≡ 256) (mark r : ℕ) (inv : Granted ks mark r) (h : r < count) (l : get_or line (r + 1) 0 < 256)
      (top : mark + c * g (get_or line (r + 1) 0) ≤ parts * ample) where
    abbrev i : ℕ
    i = get_or line (r + 1) 0

    abbrev ts : List (Slot ℕ)
    ts = slots_of p ks xs hs

    -- the mark with its lead
    abbrev raised : ℕ
    raised = mark + c * g i

    first : get_or (dropped_by r qs) i 0 ≡ 1
    first = get_map (λ x. x - r) qs i (omega arith) ∙ omega (arith, o.slot (r + 1) (omega arith) (omega arith))

    next_same : (at p ts i).next ≡ (at p before i).next
    next_same =
        ap (λ (s : Slot ℕ). s.next) (slot_at p ks xs hs (same p n ks₀ xs hs w ks long) i)
        ∙ sym (ap (λ (s : Slot ℕ). s.next) (slot_at p ks₀ xs hs w.same i))

    lead_is : g i ≡ p.lead (at p ts i).next
    lead_is = own_lead p g n ks₀ xs hs qs line count w a.asked o (r + 1) (omega arith) (omega arith) l ∙ ap p.lead (sym next_same)

    raised_is : raised ≡ low_water p (leads p ts + p.lead (at p ts i).next)
    unfolding low_water
    raised_is = rw (inv.low, a.rate, lead_is) (omega arith)

    -- one comparison with the least that a playing slot holds
    players_hold_law : players_hold p (low_water p (leads p ts + p.lead (at p ts i).next)) ts ≡ leb raised level
    players_hold_law =
        ap (λ (x : ℕ). players_hold p x ts) (sym raised_is) ∙ inv.players raised
        ∙ least_holds p ample raised before top ∙ ap (leb raised) (sym a.least)

    -- it has to wait
    pub next_waits : level < raised → served p 256 before qs ≡ served_to ts (dropped_by r qs)
    next_waits u = sym inv.rest ∙ served_waits p ts (dropped_by r qs) inv.places i first (256 - r) (players_hold_law ∙ lt-leb raised level u)

    -- it is granted
    asks : (at p ts i).kind ≡ waiting
    asks = placed_asks p ts (dropped_by r qs) inv.places i (omega (arith, first))

    now_is : slots_of p (set ks i filling) xs hs ≡ granted p ts i
    unfolding granted
    now_is =
        slots_set_kind p ks xs hs (same p n ks₀ xs hs w ks long) i filling
        ∙ ap (λ (s : Slot ℕ). set ts i (filling_slot p s)) (sym (slot_at p ks xs hs (same p n ks₀ xs hs w ks long) i))

    dropped_is : map (dropped 1) (dropped_by r qs) ≡ dropped_by (r + 1) qs
    dropped_is = drop_next r qs ∙ ap (λ (m : ℕ). dropped_by m qs) (sym (add-one r))

    pub next_granted : raised ≤ level → Granted (set ks i filling) raised (r + 1)
    next_granted u = record {
      rest =
          ap₂ (served p (256 - (r + 1))) now_is (sym dropped_is)
          ∙ sym (served_next p ts (dropped_by r qs) inv.places i first (256 - (r + 1)) (players_hold_law ∙ le-leb raised level u))
          ∙ ap (λ (m : ℕ). served p m ts (dropped_by r qs)) fuel ∙ inv.rest;
      low = raised_is ∙ ap (low_water p) (sym (granted_leads p ts i asks)) ∙ ap (λ (rs : List (Slot ℕ)). low_water p (leads p rs)) (sym now_is);
      players = λ x. ap (players_hold p x) now_is ∙ granted_players p x ts i asks ∙ inv.players x;
      places = subst (λ (rs : List (Slot ℕ)). Places p rs (dropped_by (r + 1) qs)) (sym now_is)
          (subst (Places p (granted p ts i)) dropped_is (placed_next p ts (dropped_by r qs) inv.places i first));
    }
      where
        fuel : suc (256 - (r + 1)) ≡ 256 - r
        fuel = omega (arith, o.few)
