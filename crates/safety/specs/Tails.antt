-- Over a sound record 21 meets only a tail: a playing slot holds all that it may draw.
-- Assumes nothing.
use Rattle.std.specs.Prelude.{ℕ, ◌≤◌, ◌<◌, ◌≡◌, Bool, true, false, cond, ◌||◌, List, length, leb, eqb}
use Rattle.std.proofs.Math.Path.{refl}
use Rattle.std.proofs.Common.{arith}
use Rattle.std.proofs.Math.ListN.{get_or}
use borrow.Author.Tests.{leb-true, leb-false, eqb-true}
use Rattle.laws.specs.Each.{each_at}
use Rattle.laws.specs.Indices.{all_from, each_of_all_from, each_from_at}
use Rattle.numbers.specs.Refusals.{draw_above_held}
use Rattle.numbers.specs.Slots.{playing, draining}
use Rattle.rules.specs.Supply.{Supply, Lawful, Named}
use Rattle.rules.specs.Scheduler.{Slot, end, free_slot, at, most_drawn, draw_limit}
use Rattle.rules.specs.Order.{Scheduler, Order}
use Rattle.rules.specs.Refusals.{draw_allowed, draw_held, judged}
use Rattle.turns.specs.Facts.{Sound}
use Rattle.turns.specs.Verdicts.{Overdrawn, overdrawn_says}
use Rattle.safety.specs.Safety.{players_hold_draw}

module _ {A : Type 0} (p : Supply A) (names : Named p) where
  module _ {Q : Type 0} (d : Scheduler A Q) (room : ℕ) (ds : List ℕ) where
    short_drains : (m i : ℕ) (s : Slot A) → (s.kind ≡ playing → m ≤ s.buffered) → draw_allowed p m ds i s ≡ true → draw_held p ds i s ≡ false
        → s.kind ≡ draining
    unfolding draw_allowed draw_held draw_limit
    short_drains m i s rich few short = go (eqb s.kind playing) refl (eqb s.kind draining) refl few
      where
        less : s.buffered < get_or ds i 0
        less = leb-false (get_or ds i 0) s.buffered short

        go : (x : Bool) → eqb s.kind playing ≡ x → (y : Bool) → eqb s.kind draining ≡ y → leb (get_or ds i 0) (cond (x || y) m 0) ≡ true
            → s.kind ≡ draining
        go true u y v e = absurd (omega (arith, less, rich (eqb-true s.kind playing u), leb-true (get_or ds i 0) m e))
        go false u true v e = eqb-true s.kind draining v
        go false u false v e = absurd (omega (arith, less, leb-true (get_or ds i 0) 0 e))

    -- a playing slot holds all that it may draw
    pub overdrawn_drains : (ok : Lawful p) (o : Order A Q) → Sound p o d → (judged p d room (end ds)).number ≡ draw_above_held
        → (at p d.slots (judged p d room (end ds)).place).kind ≡ draining
    overdrawn_drains ok o h e = go (judged p d room (end ds)).place (overdrawn_says p names d room ds e)
      where
        m : ℕ
        m = most_drawn p d.slots

        rich : (i : ℕ) → (at p d.slots i).kind ≡ playing → m ≤ (at p d.slots i).buffered
        rich i =
            each_at (λ s. s.kind ≡ playing → m ≤ s.buffered) d.slots i (free_slot p) (players_hold_draw p ok d.slots h.unused h.slots)
            (λ z. absurd (omega arith))

        few : (i : ℕ) → all_from (draw_allowed p m ds) 0 d.slots ≡ true → i < length d.slots → draw_allowed p m ds i (at p d.slots i) ≡ true
        few i t l =
            each_from_at (λ j s. draw_allowed p m ds j s ≡ true) (free_slot p) d.slots i (each_of_all_from (draw_allowed p m ds) 0 d.slots t) l

        go : (i : ℕ) → Overdrawn p names d room ds i → (at p d.slots i).kind ≡ draining
        go i q = short_drains m i (at p d.slots i) (rich i) (few i q.0 q.1.inside) q.1.fails
