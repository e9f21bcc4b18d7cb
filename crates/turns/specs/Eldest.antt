-- Document 02, ticket 5: what a begin makes of the eldest. It is granted where it may be, and else nobody is.
-- Assumes nothing.
use Prim.Native.Nat.{ℕ, zero, suc, ◌<◌}
use Rattle.std.specs.Prelude.{◌≡◌, ◌≢◌, Bool, true, false, cond, ◌&&◌, get_or, eqb}
use Rattle.std.proofs.Math.Path.{refl, ap}
use Rattle.std.proofs.Common.{sym, ◌∙◌, arith}
use mathlib.Core.List.{List, [], ◌∷◌, map}
use borrow.Author.Tests.{eqb-true, ne_eqb}
use Rattle.laws.specs.Bools.{and_left}
use Rattle.numbers.specs.Slots.{waiting, filling}
use Rattle.rules.specs.Supply.{Supply}
use Rattle.rules.specs.Scheduler.{Slot, free_slot, filling_slot, at, holds, start_by, started_slot, started, grantable, granted}
use Rattle.rules.specs.Order.{Begun, eldest, dropped, eldest_lead, served}
use Rattle.turns.specs.Places.{get_self, get_other, in_range, eldest_le, Places}

module _ {A : Type 0} (p : Supply A) where
  -- the eldest is the slot at place 1
  pub eldest_here : (ss : List (Slot A)) (q : List ℕ) (i : ℕ) → Places p ss q → get_or q i 0 ≡ 1 → eldest q ≡ i
  eldest_here ss q i h e = let r = eldest_le q i e in h.apart (eldest q) i (omega (arith, r.1)) (r.1 ∙ sym e)

  pub eldest_lead_law : (ss : List (Slot A)) (q : List ℕ) (i : ℕ) → eldest q ≡ i → (at p ss i).kind ≡ waiting → eldest_lead p ss q ≡ p.lead (at p ss i).next
  unfolding eldest_lead
  eldest_lead_law ss q i e k = rw (e, k)

  -- an asked slot does not start to play
  pub started_asked : (x : ℕ) (ss : List (Slot A)) (i : ℕ) → (at p ss i).kind ≡ waiting → at p (started p x ss) i ≡ at p ss i
  unfolding started started_slot
  started_asked x [] i k = refl
  started_asked x (s ∷ ss) zero k = ap (λ (b : Bool). start_by p (b && holds p x s) s) (ne_eqb s.kind filling (λ z. omega arith))
  started_asked x (s ∷ ss) (suc i) k = started_asked x ss i k

  asks : (ss : List (Slot A)) (i : ℕ) → grantable p ss i ≡ true → (at p ss i).kind ≡ waiting
  unfolding grantable
  asks ss i g = eqb-true (at p ss i).kind waiting (and_left (eqb (at p ss i).kind waiting) _ g)

  granted_at : (ss : List (Slot A)) (i : ℕ) → (at p ss i).kind ≡ waiting → (at p (granted p ss i) i).kind ≡ filling
  unfolding granted
  granted_at ss i k = ap (λ (s : Slot A). s.kind) (get_self ss i (filling_slot p (at p ss i)) (free_slot p) (in_range p ss i (omega arith)))

  granted_other : (ss : List (Slot A)) (i j : ℕ) → (at p ss j).kind ≡ waiting → i ≢ j → at p (granted p ss j) i ≡ at p ss i
  unfolding granted
  granted_other ss i j k n = get_other ss j i (filling_slot p (at p ss j)) (free_slot p) (in_range p ss j (omega arith)) n

  -- who does not ask is left alone
  served_other : (k : ℕ) (ss : List (Slot A)) (q : List ℕ) (i : ℕ) → (at p ss i).kind ≢ waiting → at p (served p k ss q).slots i ≡ at p ss i
  unfolding served
  served_other zero ss q i n = refl
  served_other (suc k) ss q i n = go (grantable p ss j) refl (served_other k (granted p ss j) (map (dropped 1) q) i)
    where
      j : ℕ
      j = eldest q

      rest : Begun A (List ℕ)
      rest = served p k (granted p ss j) (map (dropped 1) q)

      go : (t : Bool) → grantable p ss j ≡ t → ((at p (granted p ss j) i).kind ≢ waiting → at p rest.slots i ≡ at p (granted p ss j) i)
          → at p (cond t rest (record { slots = ss; queue = q })).slots i ≡ at p ss i
      go true e ih =
          let u = asks ss j e in
          let s = granted_other ss i j u (λ z. n (ap (λ (m : ℕ). (at p ss m).kind) z ∙ u)) in
          ih (λ z. n (sym (ap (λ (t : Slot A). t.kind) s) ∙ z)) ∙ s
      go false e ih = refl

  -- the eldest is granted
  pub served_yes : (k : ℕ) (ss : List (Slot A)) (q : List ℕ) (i : ℕ) → 0 < k → eldest q ≡ i → grantable p ss i ≡ true
      → (at p (served p k ss q).slots i).kind ≡ filling
  unfolding served
  served_yes zero ss q i h e g = absurd (omega arith)
  served_yes (suc k) ss q i h e g =
      let s = granted_at ss i (asks ss i g) in
      rw (e, g) (ap (λ (t : Slot A). t.kind) (served_other k (granted p ss i) (map (dropped 1) q) i (λ z. omega arith)) ∙ s)

  -- where it may not be, nothing changes
  pub served_no : (k : ℕ) (ss : List (Slot A)) (q : List ℕ) → grantable p ss (eldest q) ≡ false → ((served p k ss q).slots ≡ ss) × ((served p k ss q).queue ≡ q)
  unfolding served
  served_no zero ss q g = (refl, refl)
  served_no (suc k) ss q g = (rw g, rw g)
