-- Document 02, ticket 5: places follow the order of asking (T5.3). Of two requests the one that was there first has the lower place, as long as
-- both stay.
-- Assumes nothing.
use Prim.Native.Nat.{ℕ, zero, suc, ◌+◌, ◌-◌, ◌<◌}
use Rattle.std.specs.Prelude.{◌≡◌, ◌≢◌, Bool, true, false, cond, get_or, set, eqb}
use Rattle.std.proofs.Math.Path.{refl, ap}
use Rattle.std.proofs.Common.{◌∙◌, subst, arith}
use Rattle.std.proofs.Math.Logic.{by_cases}
use mathlib.Core.List.{List, [], ◌∷◌, map}
use Rattle.std.proofs.Math.Decide.{dec_lt}
use Rattle.std.proofs.Math.ListN.{length, length-set}
use Rattle.std.proofs.lemmas.Bool.{eqb-false}
use Rattle.numbers.specs.Slots.{free, waiting}
use Rattle.rules.specs.Supply.{Supply, Lawful}
use Rattle.rules.specs.Scheduler.{Slot, Call, join, leave, begin, end, free_slot, waiting_slot, at, joined, left}
use Rattle.rules.specs.Order.{Scheduler, Order, dropped, waiting_count, by_place}
use Rattle.rules.specs.Kinds.{grant_count}
use Rattle.rules.specs.Calls.{State, Rules, Allowed, accepted, opening, answer_by, answer, turn, after}
use Rattle.turns.specs.Facts.{Sound}
use Rattle.turns.specs.Strict.{Strict}
use Rattle.turns.specs.Answers.{verdict_zero, answer_accepted}
use Rattle.turns.specs.Places.{set_past, get_self, get_other, get_map, drop_less, drop_more, in_range, Places}
use Rattle.turns.specs.ByPlace.{queue_places, by_place_orderly}
use Rattle.turns.specs.Served.{begun_is}
use Rattle.safety.specs.Lists.{InStep, turn_keeps, every_list_in_step}
use Rattle.safety.specs.Wait.{Stays}

-- slot i has a place, and slot j a later one
abbrev Before : ℕ → ℕ → List ℕ → Type 0
Before i j q = (0 < get_or q i 0) × (get_or q i 0 < get_or q j 0)

-- ---- places that drop keep their order

drop_order : (m x y : ℕ) → 0 < x → x < y → x ≢ m → y ≢ m → (0 < m) → (0 < dropped m x) × (dropped m x < dropped m y)
drop_order m x y a b c d e = by_cases (dec_lt x m)
    (λ h. by_cases (dec_lt y m) (λ k. omega (arith, drop_less m x h, drop_less m y k)) (λ k. omega (arith, drop_less m x h, drop_more m y (omega arith))))
    (λ h. omega (arith, drop_more m x (omega arith), drop_more m y (omega arith)))

left_order : (q : List ℕ) (i j k : ℕ) → Before i j q → get_or q i 0 ≢ get_or q k 0 → get_or q j 0 ≢ get_or q k 0
    → Before i j (cond (eqb (get_or q k 0) 0) q (map (dropped (get_or q k 0)) q))
left_order q i j k b c d = go (eqb (get_or q k 0) 0) refl
  where
    go : (t : Bool) → eqb (get_or q k 0) 0 ≡ t → Before i j (cond t q (map (dropped (get_or q k 0)) q))
    go true e = b
    go false e =
        let m : get_or q k 0 ≢ 0 = eqb-false (get_or q k 0) 0 e in
        let z = drop_less (get_or q k 0) 0 (omega arith) in
        let r = drop_order (get_or q k 0) (get_or q i 0) (get_or q j 0) b.0 b.1 c d (omega arith) in
        omega (arith, r, get_map (dropped (get_or q k 0)) q i z, get_map (dropped (get_or q k 0)) q j z)

module _ {A : Type 0} (p : Supply A) (ok : Lawful p) where
  abbrev o : Order A (List ℕ)
  o = by_place p

  abbrev places_of : (d : Scheduler A (List ℕ)) → Sound p o d → Places p d.slots d.queue
  places_of d h = queue_places p d.queue d.slots h.queue

  module _ (d : Scheduler A (List ℕ)) (h : Sound p o d) (i j : ℕ) where
    abbrev ss : List (Slot A)
    ss = d.slots

    abbrev q : List ℕ
    q = d.queue

    -- a slot that has a place is not free
    occupied : (k l : ℕ) → (at p ss k).kind ≡ free → 0 < get_or q l 0 → l ≢ k
    occupied k l f b e = omega (arith, f, b, (places_of d h).idle k (λ z. omega arith), ap (λ (t : ℕ). get_or q t 0) e)

    -- one that asks after k has left is another
    stayed : (k l : ℕ) → 0 < (at p ss k).kind → (at p (left p ss k) l).kind ≡ waiting → l ≢ k
    unfolding left
    stayed k l f s e =
        let gone = ap (λ (t : Slot A). t.kind) (get_self ss k (free_slot p) (free_slot p) (in_range p ss k f)) in
        omega (arith, s, ap (λ (t : ℕ). (at p (set ss k (free_slot p)) t).kind) e, gone)

    other_place : (k x l : ℕ) → l ≢ k → get_or (set q k x) l 0 ≡ get_or q l 0
    other_place k x l n = by_cases (dec_lt k (length q)) (λ r. get_other q k l x 0 r n) (λ r. ap (λ (t : List ℕ). get_or t l 0) (set_past q k x (omega arith)))

    -- a begin takes the same number of all places
    begin_order : Before i j q → (at p (o.begins q ss).slots i).kind ≡ waiting → Before i j (o.begins q ss).queue
    begin_order b s =
        let n : ℕ = grant_count p ss q in
        let r = (begun_is p ss q (places_of d h)).1 in
        let left : (l : ℕ) → get_or (o.begins q ss).queue l 0 ≡ get_or q l 0 - n =
        λ l. ap (λ (t : List ℕ). get_or t l 0) r ∙ get_map (λ x. x - n) q l (omega arith) in
        let sound = (by_place_orderly p).queue_begun q ss h.slots h.queue in
        let some = (queue_places p (o.begins q ss).queue (o.begins q ss).slots sound).named i s in
        omega (arith, b, some, left i, left j)

    -- an accepted call after which both ask keeps their order
    order_kept : Before i j q → (c : Call A) → Allowed p o d c
        → (let e = (accepted p o d c).scheduler in (at p e.slots i).kind ≡ waiting → (at p e.slots j).kind ≡ waiting → Before i j e.queue)
    unfolding accepted by_place joined
    order_kept b (join k x) a s t =
        let n : ℕ = waiting_count p ss + 1 in
        omega (arith, b, other_place k n i (occupied k i a.2 b.0), other_place k n j (occupied k j a.2 (omega (arith, b))))
    order_kept b (leave k) a s t =
        left_order q i j k b (λ e. stayed k i a.2 s ((places_of d h).apart i k b.0 e))
        (λ e. stayed k j a.2 t ((places_of d h).apart j k (omega (arith, b)) e))
    order_kept b begin a s t = begin_order b s
    order_kept b (end ds) a s t = b

    -- who joins comes after each that asks
    join_order : (b : A) → (at p ss i).kind ≡ waiting → (at p ss j).kind ≡ free → (at p (joined p ss j b) j).kind ≡ waiting → Before i j (o.joins q ss j)
    unfolding by_place joined
    join_order b k f w =
        let pl = places_of d h in
        let r : j < length ss = omega (arith, in_range p (set ss j (waiting_slot p b)) j (omega (arith, w)), length-set ss j (waiting_slot p b)) in
        let own = get_self q j (waiting_count p ss + 1) 0 (omega (arith, pl.long)) in
        omega (arith, own, other_place j (waiting_count p ss + 1) i (occupied j i f (pl.named i k)), pl.named i k, pl.low i)

  -- ---- lists

  module _ {X : Type 0} (u : Rules A (List ℕ) X) (us : Strict p o u) where
    abbrev Kept : State A (List ℕ) → Type 0
    Kept v = InStep p ok o (by_place_orderly p) v

    abbrev AsksIn : State A (List ℕ) → ℕ → Type 0
    AsksIn v i = (at p v.scheduler.slots i).kind ≡ waiting

    turn_order : (i j : ℕ) (v : State A (List ℕ)) (x : X) → Kept v → Before i j v.scheduler.queue
        → AsksIn (turn p o u v x) i → AsksIn (turn p o u v x) j → Before i j (turn p o u v x).scheduler.queue
    unfolding turn answer
    turn_order i j v x h b = go (u.verdict v.scheduler x).number refl
      where
        go : (n : ℕ) → (u.verdict v.scheduler x).number ≡ n
            → (let d = (answer_by p o u n (u.verdict v.scheduler x).place v.scheduler x).scheduler in
            (at p d.slots i).kind ≡ waiting → (at p d.slots j).kind ≡ waiting → Before i j d.queue)
        go zero e s t = order_kept v.scheduler h.sound i j b (u.move x) (us.strict v.scheduler x e) s t
        go (suc n) e s t = b

    list_order : (xs : List X) (i j : ℕ) (v : State A (List ℕ)) → Kept v → Before i j v.scheduler.queue → Stays p u i v xs → Stays p u j v xs
        → Before i j (after p o u v xs).scheduler.queue
    unfolding after
    list_order [] i j v h b s t = b
    list_order (x ∷ xs) i j v h b s t =
        list_order xs i j (turn p o u v x) (turn_keeps p ok o (by_place_orderly p) u us v x h) (turn_order i j v x h b s.0 t.0) s.1 t.1

    first_order : (i j : ℕ) (b : A) (v : State A (List ℕ)) (x : X) → Kept v → AsksIn v i → u.move x ≡ join j b → (answer p o u v.scheduler x).number ≡ 0
        → AsksIn (turn p o u v x) j → Before i j (turn p o u v x).scheduler.queue
    unfolding turn accepted
    first_order i j b v x h k m a t =
        let z = verdict_zero p o u v.scheduler x a in
        let e = answer_accepted p o u v.scheduler x z ∙ ap (accepted p o v.scheduler) m in
        let f = (subst (Allowed p o v.scheduler) m (us.strict v.scheduler x z)).2 in
        let w : (at p (accepted p o v.scheduler (join j b)).scheduler.slots j).kind ≡ waiting = rw e at t in
        rw e (join_order v.scheduler h.sound i j b k f w)

    -- IN THE ORDER OF ASKING: slot i asks when slot j joins, and both ask after each call from then on; then slot i has the lower place
    pub asked_before : (xs ys : List X) (x : X) (i j : ℕ) (b : A) → (let v = after p o u (opening p o) xs in
        AsksIn v i → u.move x ≡ join j b → (answer p o u v.scheduler x).number ≡ 0 → Stays p u i v (x ∷ ys) → Stays p u j v (x ∷ ys)
        → get_or (after p o u v (x ∷ ys)).scheduler.queue i 0 < get_or (after p o u v (x ∷ ys)).scheduler.queue j 0)
    unfolding after
    asked_before xs ys x i j b k m a s t =
        let v = after p o u (opening p o) xs in
        let h = every_list_in_step p ok o (by_place_orderly p) u us xs in
        (list_order ys i j (turn p o u v x) (turn_keeps p ok o (by_place_orderly p) u us v x h) (first_order i j b v x h k m a t.0) s.1 t.1).1
