-- Document 02, ticket 5: the order of asking is orderly.
-- Assumes nothing.
use Prim.Native.Nat.{ℕ, zero, suc, ◌+◌, ◌≤◌, ◌<◌}
use Rattle.std.specs.Prelude.{◌≡◌, ◌≢◌, Bool, cond, ◌&&◌, length, get_or, set, replicate, eqb}
use Rattle.std.proofs.Math.Path.{refl, sym}
use Rattle.std.proofs.Common.{◌∙◌}
use Rattle.std.proofs.Math.Logic.{by_cases}
use Rattle.std.proofs.Math.Bool.{true, false}
use mathlib.Core.List.{List, [], ◌∷◌, map}
use native.Mathlib.Omega.{arith}
use Rattle.std.proofs.Math.Nat.{mul-le-mul_left}
use Rattle.std.proofs.Math.Decide.{dec_lt, ℕ_discrete}
use Rattle.std.proofs.lemmas.List.{length-replicate}
use borrow.Author.Tests.{eqb-true, eqb-false, ne_eqb}
use Rattle.laws.specs.Bools.{and_left}
use Rattle.laws.specs.Each.{Both, each_map, both_refl, zero_at}
use Rattle.numbers.specs.Limits.{max_streams}
use Rattle.numbers.specs.Slots.{waiting, filling}
use Rattle.rules.specs.Supply.{Supply}
use Rattle.rules.specs.Scheduler.{Slot, free_slot, at, leads, low_water, holds, start_by, started_slot, started, grantable, granted, joined, left}
use Rattle.rules.specs.Order.{Begun, eldest, dropped, waiting_count, eldest_lead, served, by_place}
use Rattle.turns.specs.Facts.{replicate_free}
use Rattle.turns.specs.Orderly.{SameWaiting, Floored, Began, Orderly, began_then, began_none}
use Rattle.turns.specs.Begins.{started_began, granted_began}
use Rattle.turns.specs.Places.{in_range, set_past, eldest_is, Places, places_pass, places_say, places_same, places_joined, places_gone}

module _ {A : Type 0} (p : Supply A) where
  -- ---- the slots

  served_began : (k : ℕ) (ss : List (Slot A)) (q : List ℕ) → Floored p (leads p ss) ss → Began p ss (served p k ss q).slots
  unfolding served
  served_began zero ss q f = began_none p ss f
  served_began (suc k) ss q f = go (grantable p ss (eldest q)) refl (λ h. served_began k ts (map (dropped 1) q) h)
    where
      ts : List (Slot A)
      ts = granted p ss (eldest q)

      rest : Begun A (List ℕ)
      rest = served p k ts (map (dropped 1) q)

      go : (t : Bool) → grantable p ss (eldest q) ≡ t → (Floored p (leads p ts) ts → Began p ts rest.slots)
          → Began p ss (cond t rest (record { slots = ss; queue = q })).slots
      go true e ih = let b = granted_began p ss (eldest q) e in began_then p ss ts _ b.kept (ih b.floored)
      go false e ih = began_none p ss f

  -- ---- the places

  -- what soundness asks of them (T5.9)
  pub queue_places : (q : List ℕ) (ss : List (Slot A)) → (by_place p).queue_sound q ss ≡ true → Places p ss q
  unfolding by_place
  queue_places q ss h = places_say p ss q h

  pub started_waits : (x : ℕ) (ss : List (Slot A)) → Both SameWaiting ss (started p x ss)
  unfolding started started_slot
  started_waits x [] = tt
  started_waits x (s ∷ ss) = (go (eqb s.kind filling && holds p x s) refl, started_waits x ss)
    where
      go : (t : Bool) → (eqb s.kind filling && holds p x s) ≡ t → SameWaiting s (start_by p t s)
      go true e = let k = eqb-true s.kind filling (and_left (eqb s.kind filling) _ e) in sym (ne_eqb s.kind waiting (λ z. omega arith))
      go false e = refl

  pub served_places : (k : ℕ) (ss : List (Slot A)) (q : List ℕ) → Places p ss q → Places p (served p k ss q).slots (served p k ss q).queue
  unfolding served grantable granted
  served_places zero ss q h = h
  served_places (suc k) ss q h = go (grantable p ss (eldest q)) refl (λ g. served_places k ts (map (dropped 1) q) g)
    where
      ts : List (Slot A)
      ts = granted p ss (eldest q)

      rest : Begun A (List ℕ)
      rest = served p k ts (map (dropped 1) q)

      go : (t : Bool) → grantable p ss (eldest q) ≡ t → (Places p ts (map (dropped 1) q) → Places p rest.slots rest.queue)
          → (let b = cond t rest (record { slots = ss; queue = q }) in Places p b.slots b.queue)
      go true e ih =
          let u = eqb-true (at p ss (eldest q)).kind waiting (and_left (eqb (at p ss (eldest q)).kind waiting) _ e) in
          ih (places_gone p ss q (eldest q) _ 1 h u (λ y. absurd (omega arith)) (eldest_is q (omega (arith, h.long, in_range p ss (eldest q) (omega arith)))))
      go false e ih = h

  left_places : (ss : List (Slot A)) (q : List ℕ) (i : ℕ) → Places p ss q → i < length ss
      → Places p (set ss i (free_slot p)) (cond (eqb (get_or q i 0) 0) q (map (dropped (get_or q i 0)) q))
  left_places ss q i h r = go (eqb (get_or q i 0) 0) refl
    where
      still : (xs : List (Slot A)) (j : ℕ) → (at p xs j).kind ≢ waiting → Both SameWaiting xs (set xs j (free_slot p))
      still [] j m = tt
      still (x ∷ xs) zero m = (sym (ne_eqb x.kind waiting m), both_refl SameWaiting xs (λ s. refl))
      still (x ∷ xs) (suc j) m = (refl, still xs j m)

      go : (t : Bool) → eqb (get_or q i 0) 0 ≡ t → Places p (set ss i (free_slot p)) (cond t q (map (dropped (get_or q i 0)) q))
      go true e = places_same p ss (set ss i (free_slot p)) q (still ss i (λ k. omega (arith, eqb-true (get_or q i 0) 0 e, h.named i k))) h
      go false e =
          by_cases (ℕ_discrete (at p ss i).kind waiting) (λ k. places_gone p ss q i (free_slot p) (get_or q i 0) h k (λ z. absurd (omega arith)) refl)
          (λ n. absurd (eqb-false (get_or q i 0) 0 e (h.idle i n)))

  opened_places : Places p (replicate max_streams (free_slot p)) (replicate max_streams 0)
  opened_places = record {
    long = length-replicate {A = ℕ} max_streams 0 ∙ sym (length-replicate max_streams (free_slot p));
    idle = λ j u. zero_at max_streams j;
    named = λ j u. absurd (omega (arith, replicate_free p max_streams j));
    low = λ j. omega (arith, zero_at max_streams j);
    apart = λ j k u e. absurd (omega (arith, zero_at max_streams j));
  }

  pub by_place_orderly : Orderly p (by_place p)
  unfolding by_place low_water joined left
  by_place_orderly = record {
    began = λ q ss g.
        let x : ℕ = low_water p (leads p ss + eldest_lead p ss q) in
        let f = each_map _ _ ss (λ s u. u.floored) g in
        let r = started_began p x ss (omega (arith, mul-le-mul_left p.c (more ss q))) f in
        began_then p ss (started p x ss) _ r.kept (served_began (length ss) _ q r.floored);
    queue_opened = places_pass p _ _ opened_places;
    queue_joined = λ q ss i b k h. by_cases (dec_lt i (length ss))
        (λ l. places_pass p _ _ (places_joined p ss q i b (places_say p ss q h) l k))
        (λ l. rw (set_past ss i _ (omega arith), set_past q i (waiting_count p ss + 1) (omega (arith, (places_say p ss q h).long))) h);
    queue_left = λ q ss i k h. places_pass p _ _ (left_places ss q i (places_say p ss q h) (in_range p ss i k));
    queue_begun = λ q ss g h. places_pass p _ _ (served_places (length ss) _ q (places_same p ss _ q (started_waits _ ss) (places_say p ss q h)));
    queue_ended = λ q ss ts b h. places_pass p _ _ (places_same p ss ts q b (places_say p ss q h));
  }
    where
      more : (ss : List (Slot A)) (q : List ℕ) → leads p ss ≤ leads p ss + eldest_lead p ss q
      more ss q = omega arith
