-- Document 02, ticket 5: what a begin serves, told by places: the first so many requests are granted, and every place drops by their number.
-- Assumes nothing.
use Prim.Native.Nat.{ℕ, zero, suc, ◌+◌, ◌-◌, ◌≤◌, ◌<◌}
use Rattle.std.specs.Prelude.{◌≡◌, ◌≢◌, Bool, cond, ◌&&◌, set}
use Rattle.std.proofs.Math.Path.{refl, sym, ap}
use Rattle.std.proofs.Common.{ap₂, ◌∙◌, arith}
use Rattle.std.proofs.Math.Logic.{by_cases}
use Rattle.std.proofs.Math.Bool.{true, false}
use mathlib.Core.List.{List, [], ◌∷◌, map}
use Rattle.std.proofs.Math.Decide.{dec_lt, ℕ_discrete}
use Rattle.std.proofs.Math.ListN.{length, get_or, length-set}
use Rattle.std.proofs.Math.Dec.{eqb}
use borrow.Author.Tests.{eqb-true, ne_eqb, eq-eqb}
use Rattle.laws.specs.Bools.{and_left, bool_ext}
use Rattle.numbers.specs.Slots.{waiting, filling}
use Rattle.rules.specs.Supply.{Supply}
use Rattle.rules.specs.Scheduler.{Slot, free_slot, filling_slot, at, leads, low_water, started, players_hold, grantable, granted}
use Rattle.rules.specs.Order.{Begun, eldest, dropped, eldest_lead, served, by_place}
use Rattle.rules.specs.Kinds.{slot_at, grants, start_mark, grant_count}
use Rattle.turns.specs.Turns.{started_leads, granted_leads, granted_players}
use Rattle.turns.specs.Places.{get_self, get_other, in_range, drop_same, drop_less, drop_more, Places, places_same}
use Rattle.turns.specs.ByPlace.{started_waits}

-- every place drops by g
abbrev pub dropped_by : ℕ → List ℕ → List ℕ
dropped_by g q = map (λ x. x - g) q

eldest_first : (q : List ℕ) → eldest q ≡ slot_at 1 q
unfolding eldest slot_at
eldest_first [] = refl
eldest_first (x ∷ q) = ap (λ (n : ℕ). cond (eqb x 1) 0 (suc n)) (eldest_first q)

slot_later : (g : ℕ) (q : List ℕ) → slot_at 1 (dropped_by g q) ≡ slot_at (suc g) q
unfolding slot_at
slot_later g [] = refl
slot_later g (x ∷ q) = ap₂ (λ (t : Bool) (n : ℕ). cond t 0 (suc n)) same (slot_later g q)
  where
    same : eqb (x - g) 1 ≡ eqb x (suc g)
    same = bool_ext (eqb (x - g) 1) (eqb x (suc g)) (λ e. eq-eqb x (suc g) (omega (arith, eqb-true (x - g) 1 e)))
        (λ e. eq-eqb (x - g) 1 (omega (arith, eqb-true x (suc g) e)))

pub eldest_later : (g : ℕ) (q : List ℕ) → eldest (dropped_by g q) ≡ slot_at (suc g) q
eldest_later g q = eldest_first (dropped_by g q) ∙ slot_later g q

drop_one : (x : ℕ) → dropped 1 x ≡ x - 1
drop_one x = by_cases (ℕ_discrete x 1) (λ e. drop_same 1 x e ∙ omega arith)
    (λ e. by_cases (dec_lt 1 x) (λ h. drop_more 1 x h) (λ h. drop_less 1 x (omega arith) ∙ omega arith))

pub drop_next : (g : ℕ) (q : List ℕ) → map (dropped 1) (dropped_by g q) ≡ dropped_by (suc g) q
drop_next g [] = refl
drop_next g (x ∷ q) = ap₂ (λ (y : ℕ) (r : List ℕ). y ∷ r) (drop_one (x - g) ∙ omega arith) (drop_next g q)

pub drop_none : (q : List ℕ) → dropped_by 0 q ≡ q
drop_none [] = refl
drop_none (x ∷ q) = ap₂ (λ (y : ℕ) (r : List ℕ). y ∷ r) (omega arith) (drop_none q)

slot_here : (k i : ℕ) (q : List ℕ) → get_or q i 0 ≡ k → 0 < k → ((j : ℕ) → get_or q j 0 ≡ k → j ≡ i) → slot_at k q ≡ i
unfolding slot_at
slot_here k i [] e h o = absurd (omega arith)
slot_here k zero (x ∷ q) e h o = rw (eq-eqb x k e)
slot_here k (suc i) (x ∷ q) e h o =
    rw (ne_eqb x k (λ z. omega (arith, o 0 z))) (ap suc (slot_here k i q e h (λ j z. omega (arith, o (suc j) z))))

module _ {A : Type 0} (p : Supply A) where
  -- ts are the slots ss in which the first g requests are granted
  pub record GrantedTo (ss : List (Slot A)) (q : List ℕ) (g : ℕ) (ts : List (Slot A)) (L : ℕ) : Type 0 where
    pub players : (x : ℕ) → players_hold p x ts ≡ players_hold p x ss
    pub sum : L ≡ leads p ts
    pub long : length ts ≡ length ss
    pub kept : (i : ℕ) → (0 < get_or q i 0 → g < get_or q i 0) → at p ts i ≡ at p ss i
    pub done : (i : ℕ) → 0 < get_or q i 0 → get_or q i 0 ≤ g → (at p ts i).kind ≡ filling

  -- and b has these slots, and the places that are left
  abbrev pub ServedTo : List (Slot A) → List ℕ → ℕ → Begun A (List ℕ) → Type 0
  ServedTo ss q g b = ((L : ℕ) × GrantedTo ss q g b.slots L) × (b.queue ≡ dropped_by g q)

  none_granted : (ss : List (Slot A)) (q : List ℕ) → GrantedTo ss q 0 ss (leads p ss)
  none_granted ss q = record { players = λ x. refl; sum = refl; long = refl; kept = λ i u. refl; done = λ i a b. absurd (omega arith) }

  module _ (ss : List (Slot A)) (q : List ℕ) (pl : Places p ss q) where
    place_at_law : (k : ℕ) → 0 < k → 0 < get_or q (slot_at k q) 0 → get_or q (slot_at k q) 0 ≡ k
    unfolding slot_at
    place_at_law k h u = go q u
      where
        go : (q : List ℕ) → 0 < get_or q (slot_at k q) 0 → get_or q (slot_at k q) 0 ≡ k
        go [] u = absurd (omega arith)
        go (x ∷ q) u = by (eqb x k) refl u (λ v. go q v)
          where
            by : (t : Bool) → eqb x k ≡ t → 0 < get_or (x ∷ q) (cond t 0 (suc (slot_at k q))) 0 → (0 < get_or q (slot_at k q) 0 → get_or q (slot_at k q) 0 ≡ k)
                → get_or (x ∷ q) (cond t 0 (suc (slot_at k q))) 0 ≡ k
            by true e v ih = eqb-true x k e
            by false e v ih = ih v

    -- one more
    one_more : (g : ℕ) (ts : List (Slot A)) (L : ℕ) → GrantedTo ss q g ts L → (let i = slot_at (suc g) q in
        (at p ss i).kind ≡ waiting → GrantedTo ss q (suc g) (granted p ts i) (L + p.lead (at p ss i).next))
    unfolding granted
    one_more g ts L h k =
        let i = slot_at (suc g) q in
        let own : get_or q i 0 ≡ suc g = place_at_law (suc g) (omega arith) (pl.named i k) in
        let same : at p ts i ≡ at p ss i = h.kept i (λ u. omega arith) in
        let asks : (at p ts i).kind ≡ waiting = ap (λ (s : Slot A). s.kind) same ∙ k in
        let r : i < length ts = in_range p ts i (omega arith) in
        record {
          players = λ x. unfold granted in granted_players p x ts i asks ∙ h.players x;
          sum = unfold granted in omega (arith, h.sum, granted_leads p ts i asks, ap (λ (s : Slot A). p.lead s.next) same);
          long = length-set ts i _ ∙ h.long;
          kept = λ j u.
              let later : j ≢ i = λ e. let z = ap (λ (x : ℕ). get_or q x 0) e ∙ own in omega (arith, z, u (omega (arith, z))) in
              get_other ts i j _ (free_slot p) r later ∙ h.kept j (λ v. omega (arith, u v));
          done = λ j u v. by_cases (ℕ_discrete j i)
              (λ e. ap (λ (x : ℕ). (at p (set ts i (filling_slot p (at p ts i))) x).kind) e ∙ ap (λ (s : Slot A). s.kind) (get_self ts i _ (free_slot p) r))
              (λ e. let before : get_or q j 0 ≢ suc g = λ z. e (pl.apart j i u (z ∙ sym own)) in
              ap (λ (s : Slot A). s.kind) (get_other ts i j _ (free_slot p) r e) ∙ h.done j u (omega arith));
        }

    -- WHAT IS SERVED: the first so many, and every place drops by their number
    pub served_is : (k g : ℕ) (ts : List (Slot A)) (L : ℕ) → GrantedTo ss q g ts L → ServedTo ss q (grants p ss q k g L) (served p k ts (dropped_by g q))
    unfolding served grants
    served_is zero g ts L h = ((L, h), refl)
    served_is (suc k) g ts L h =
        go (eqb s.kind waiting && players_hold p (low_water p M) ss) refl (λ a. served_is k (suc g) (granted p ts i) M (one_more g ts L h a))
      where
        i : ℕ
        i = slot_at (suc g) q

        s : Slot A
        s = at p ss i

        M : ℕ
        M = L + p.lead s.next

        same : at p ts i ≡ s
        same = h.kept i (λ u. omega (arith, place_at_law (suc g) (omega arith) u))

        test : grantable p ts (eldest (dropped_by g q)) ≡ (eqb s.kind waiting && players_hold p (low_water p M) ss)
        test = unfold grantable in rw (eldest_later g q, same, h.players (low_water p (leads p ts + p.lead s.next)), ← h.sum) refl

        next : ℕ → Begun A (List ℕ)
        next j = served p k (granted p ts j) (map (dropped 1) (dropped_by g q))

        go : (t : Bool) → (eqb s.kind waiting && players_hold p (low_water p M) ss) ≡ t
            → (s.kind ≡ waiting → ServedTo ss q (grants p ss q k (suc g) M) (served p k (granted p ts i) (dropped_by (suc g) q)))
            → ServedTo ss q (cond t (grants p ss q k (suc g) M) g)
            (cond (grantable p ts (eldest (dropped_by g q))) (next (eldest (dropped_by g q))) (record { slots = ts; queue = dropped_by g q }))
        go true e ih = rw (test ∙ e, eldest_later g q, drop_next g q) (ih (eqb-true s.kind waiting (and_left (eqb s.kind waiting) _ e)))
        go false e ih = rw (test ∙ e) ((L, h), refl)

  -- what a begin makes of the slots and their places
  pub begun_is : (ss : List (Slot A)) (q : List ℕ) → Places p ss q
      → ServedTo (started p (start_mark p ss q) ss) q (grant_count p ss q) ((by_place p).begins q ss)
  unfolding by_place grant_count start_mark
  begun_is ss q h =
      let x : ℕ = low_water p (leads p ss + eldest_lead p ss q) in
      let ts = started p x ss in
      let r : Places p ts q = places_same p ss ts q (started_waits p x ss) h in
      let s = served_is ts q r (length ss) 0 ts (leads p ts) (none_granted ts q) in
      rw (drop_none q, started_leads p x ss) at s
