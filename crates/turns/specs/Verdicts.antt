-- What document 01's refusals guarantee: they accept only what the rules allow, and only over a sound record; over a sound record
-- with fair lists nothing is answered 14.
-- Assumes nothing.
use Prim.Native.Nat.{ℕ, ◌*◌, ◌<◌}
use Rattle.std.specs.Prelude.{◌≡◌, refl, ◌≢◌, ◌&&◌, List, length, leb, ltb, eqb}
use Rattle.std.proofs.Common.{sym, ap, ◌∙◌}
use Rattle.std.proofs.Math.Bool.{Bool, true, false}
use native.Mathlib.Omega.{arith}
use borrow.Author.Tests.{ltb-true, eqb-true}
use Rattle.laws.specs.Bools.{and_right}
use Rattle.laws.specs.Indices.{all_from, lowest_from, Lowest, lowest_fails}
use Rattle.numbers.specs.Refusals.{too_short, not_sound, wrong_phase, no_such_slot, slot_state, draw_count, draw_above_limit, draw_above_held}
use Rattle.rules.specs.Supply.{Supply, Named}
use Rattle.numbers.specs.Slots.{free, between, sweeping}
use Rattle.rules.specs.Scheduler.{Slot, Call, join, leave, begin, end, free_slot, at, most_drawn}
use Rattle.rules.specs.Order.{Scheduler, Order}
use Rattle.rules.specs.Sound.{sound}
use Rattle.rules.specs.Refusals.{Verdict, accept, unless, draw_allowed, draw_held, judged, verdict}
use Rattle.rules.specs.Calls.{Allowed, refusals}
use Rattle.turns.specs.Strict.{Strict}
use Rattle.turns.specs.Rows.{row_sound}

-- ---- one row of the table

passed : (t : Bool) (k i : ℕ) (r : Verdict) → 0 < k → (unless t k i r).number ≡ 0 → (t ≡ true) × (r.number ≡ 0)
passed true k i r h e = (refl, e)
passed false k i r h e = absurd (omega arith)

passed_fault : (k i : ℕ) → (unless (eqb k 0) k i accept).number ≡ 0 → k ≡ 0
passed_fault k i e = go (eqb k 0) refl e
  where
    go : (t : Bool) → eqb k 0 ≡ t → (unless t k i accept).number ≡ 0 → k ≡ 0
    go true q e = eqb-true k 0 q
    go false q e = e

-- the row's number is another one
passed_other : (t : Bool) (k i : ℕ) (r : Verdict) (m : ℕ) → k ≢ m → (unless t k i r).number ≡ m → (t ≡ true) × (r.number ≡ m) × (unless t k i r ≡ r)
passed_other true k i r m h e = (refl, e, refl)
passed_other false k i r m h e = absurd (h e)

-- or it is this one, which the rest does not give
failed_here : (t : Bool) (k i : ℕ) (r : Verdict) → r.number ≢ k → (unless t k i r).number ≡ k → (t ≡ false) × ((unless t k i r).place ≡ i)
failed_here true k i r h e = absurd (h e)
failed_here false k i r h e = (refl, refl)

module _ {A : Type 0} (p : Supply A) (names : Named p) where
  module _ {Q : Type 0} (o : Order A Q) where
    -- ---- they accept only what the rules allow

    judged_strict : (d : Scheduler A Q) (room : ℕ) (c : Call A) → (judged p d room c).number ≡ 0 → Allowed p o d c
    unfolding judged
    judged_strict d room (join i b) e =
        let a = passed (eqb d.phase between) wrong_phase 0 _ (omega arith) e in
        let a₁ = passed (ltb i p.n) no_such_slot i _ (omega arith) a.1 in
        let a₂ = passed (eqb (at p d.slots i).kind free) slot_state i _ (omega arith) a₁.1 in (
          eqb-true d.phase between a.0,
          ltb-true i p.n a₁.0,
          eqb-true (at p d.slots i).kind free a₂.0,
          names.faultless b (passed_fault (p.fault b) i a₂.1),
        )
    judged_strict d room (leave i) e =
        let a = passed (eqb d.phase between) wrong_phase 0 _ (omega arith) e in
        let a₁ = passed (ltb i p.n) no_such_slot i _ (omega arith) a.1 in
        let a₂ = passed (ltb 0 (at p d.slots i).kind) slot_state i _ (omega arith) a₁.1 in
        (eqb-true d.phase between a.0, ltb-true i p.n a₁.0, ltb-true 0 (at p d.slots i).kind a₂.0)
    judged_strict d room begin e = eqb-true d.phase between (passed (eqb d.phase between) wrong_phase 0 _ (omega arith) e).0
    judged_strict d room (end ds) e =
        let ss = d.slots in
        let m : ℕ = most_drawn p ss in
        let a = passed (eqb d.phase sweeping) wrong_phase 0 _ (omega arith) e in
        let a₁ = passed (eqb (length ds) p.n) draw_count 0 _ (omega arith) a.1 in
        let a₂ = passed (all_from (draw_allowed p m ds) 0 ss) draw_above_limit (lowest_from (draw_allowed p m ds) 0 ss) _ (omega arith) a₁.1 in
        let a₃ = passed (all_from (draw_held p ds) 0 ss) draw_above_held (lowest_from (draw_held p ds) 0 ss) _ (omega arith) a₂.1 in
        (eqb-true d.phase sweeping a.0, eqb-true (length ds) p.n a₁.0, a₂.0, a₃.0)

    pub refusals_strict : Strict p o (refusals p o)
    unfolding refusals verdict
    refusals_strict = record {
      strict = λ d x e. judged_strict d x.room x.call (passed (x.fair && sound p o d) not_sound 0 _ (omega arith) e).1;
    }

    -- ---- and only over a sound record

    pub accepted_was_sound : (d : Scheduler A Q) (fair : Bool) (room : ℕ) (c : Call A) → (verdict p o d fair room c).number ≡ 0 → sound p o d ≡ true
    unfolding verdict
    accepted_was_sound d fair room c e = and_right fair _ (passed (fair && sound p o d) not_sound 0 _ (omega arith) e).0

  -- ---- over a sound record with fair lists no row gives 14

  module _ {Q : Type 0} (d : Scheduler A Q) where
    other : (t : Bool) (k i : ℕ) (r : Verdict) → k ≢ not_sound → r.number ≢ not_sound → (unless t k i r).number ≢ not_sound
    other true k i r h g = g
    other false k i r h g = h

    judged_other : (room : ℕ) (c : Call A) → (judged p d room c).number ≢ not_sound
    unfolding judged
    judged_other room (join i b) =
        other (eqb d.phase between) wrong_phase 0 _ (λ e. omega arith)
        (other (ltb i p.n) no_such_slot i _ (λ e. omega arith)
        (other (eqb (at p d.slots i).kind free) slot_state i _ (λ e. omega arith)
        (other (eqb (p.fault b) 0) (p.fault b) i accept (names.fault_own b) (λ e. omega arith))))
    judged_other room (leave i) =
        other (eqb d.phase between) wrong_phase 0 _ (λ e. omega arith)
        (other (ltb i p.n) no_such_slot i _ (λ e. omega arith)
        (other (ltb 0 (at p d.slots i).kind) slot_state i accept (λ e. omega arith) (λ e. omega arith)))
    judged_other room begin =
        other (eqb d.phase between) wrong_phase 0 _ (λ e. omega arith)
        (other (leb (p.visits * p.n) room) too_short 0 accept (λ e. omega arith) (λ e. omega arith))
    judged_other room (end ds) =
        let ss = d.slots in
        let m : ℕ = most_drawn p ss in
        other (eqb d.phase sweeping) wrong_phase 0 _ (λ e. omega arith)
        (other (eqb (length ds) p.n) draw_count 0 _ (λ e. omega arith)
        (other (all_from (draw_allowed p m ds) 0 ss) draw_above_limit (lowest_from (draw_allowed p m ds) 0 ss) _ (λ e. omega arith)
        (other (all_from (draw_held p ds) 0 ss) draw_above_held (lowest_from (draw_held p ds) 0 ss) accept (λ e. omega arith) (λ e. omega arith))))

  -- only unfair lists are answered 14 over a sound record
  pub sound_never_unsound : {Q : Type 0} (o : Order A Q) (d : Scheduler A Q) (room : ℕ) (c : Call A) → sound p o d ≡ true
      → (verdict p o d true room c).number ≢ not_sound
  sound_never_unsound o d room c e q = judged_other d room c (ap (λ (v : Verdict). v.number) (sym (row_sound p o d room c e)) ∙ q)

  -- ---- refusals of draws

  module _ {Q : Type 0} (d : Scheduler A Q) (room : ℕ) (ds : List ℕ) where
    -- the place of 20 is the lowest slot whose draw is above what it may draw
    pub excess_lowest : (judged p d room (end ds)).number ≡ draw_above_limit
        → Lowest (draw_allowed p (most_drawn p d.slots) ds) (free_slot p) d.slots (judged p d room (end ds)).place
    unfolding judged
    excess_lowest e =
        let ss = d.slots in
        let f : ℕ → Slot A → Bool = draw_allowed p (most_drawn p ss) ds in
        let held : Verdict = unless (all_from (draw_held p ds) 0 ss) draw_above_held (lowest_from (draw_held p ds) 0 ss) accept in
        let a = passed_other (eqb d.phase sweeping) wrong_phase 0 _ draw_above_limit (λ z. omega arith) e in
        let a₁ = passed_other (eqb (length ds) p.n) draw_count 0 _ draw_above_limit (λ z. omega arith) a.1 in
        let a₂ = failed_here (all_from f 0 ss) draw_above_limit (lowest_from f 0 ss) held (not_excess (all_from (draw_held p ds) 0 ss)) a₁.1 in
        rw (a.2, a₁.2, a₂.1) (lowest_fails f (free_slot p) ss a₂.0)
      where
        not_excess : (t : Bool) → (unless t draw_above_held (lowest_from (draw_held p ds) 0 d.slots) accept).number ≢ draw_above_limit
        not_excess true z = omega arith
        not_excess false z = omega arith

    abbrev pub Overdrawn : ℕ → Type 0
    Overdrawn i =
        (all_from (draw_allowed p (most_drawn p d.slots) ds) 0 d.slots ≡ true) × Lowest (draw_held p ds) (free_slot p) d.slots i

    pub overdrawn_says : (judged p d room (end ds)).number ≡ draw_above_held → Overdrawn (judged p d room (end ds)).place
    unfolding judged
    overdrawn_says e =
        let ss = d.slots in
        let f : ℕ → Slot A → Bool = draw_allowed p (most_drawn p ss) ds in
        let g : ℕ → Slot A → Bool = draw_held p ds in
        let a = passed_other (eqb d.phase sweeping) wrong_phase 0 _ draw_above_held (λ z. omega arith) e in
        let a₁ = passed_other (eqb (length ds) p.n) draw_count 0 _ draw_above_held (λ z. omega arith) a.1 in
        let a₂ = passed_other (all_from f 0 ss) draw_above_limit (lowest_from f 0 ss) _ draw_above_held (λ z. omega arith) a₁.1 in
        let a₃ = failed_here (all_from g 0 ss) draw_above_held (lowest_from g 0 ss) accept (λ z. omega arith) a₂.1 in
        rw (a.2, a₁.2, a₂.2, a₃.1) (a₂.0, lowest_fails g (free_slot p) ss a₃.0)

    -- the place of 21 is the lowest slot whose draw is above what it holds
    pub overdrawn_lowest : (judged p d room (end ds)).number ≡ draw_above_held → Lowest (draw_held p ds) (free_slot p) d.slots (judged p d room (end ds)).place
    overdrawn_lowest e = (overdrawn_says e).1
