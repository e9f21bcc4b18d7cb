-- A join and a leave keep a record sound, over any supply and any orderly order.
-- Assumes nothing.
use Prim.Native.Nat.{ℕ, zero, suc, ◌*◌, ◌≤◌, ◌<◌}
use Rattle.std.specs.Prelude.{◌≡◌, refl, true, set}
use Rattle.std.proofs.Common.{ap, ◌∙◌, get_or-set_other}
use mathlib.Core.List.{List, [], ◌∷◌}
use native.Mathlib.Omega.{arith}
use Rattle.std.proofs.Math.Nat.{mul-le-mul_left}
use Rattle.laws.specs.Runs.{sum_by}
use Rattle.laws.specs.Each.{Each, each_set, each_map}
use Rattle.numbers.specs.Slots.{playing}
use Rattle.numbers.specs.Units.{parts}
use Rattle.rules.specs.Supply.{Supply}
use Rattle.rules.specs.Scheduler.{Slot, join, leave, free_slot, waiting_slot, lead_of, leads, low_water, joined, left}
use Rattle.rules.specs.Order.{Scheduler, Order}
use Rattle.rules.specs.Calls.{Allowed, accepted}
use Rattle.turns.specs.Facts.{Good, good_block, good_free, FreeFrom, Sound}
use Rattle.turns.specs.Orderly.{Orderly}
use Rattle.turns.specs.Slots.{other_lead}

module _ {A : Type 0} (p : Supply A) where
  pub good_waiting : (L : ℕ) (b : A) → p.is_block b ≡ true → Good p L (waiting_slot p b)
  good_waiting L b e = good_block p L (waiting_slot p b) (omega arith) (omega arith) e (λ _. refl) (omega arith) (λ z. absurd (omega arith))

  -- a good slot stays good where the leads fall
  pub good_lower : (L M : ℕ) → M ≤ L → (s : Slot A) → Good p L s → Good p M s
  unfolding low_water
  good_lower L M u s g =
      let f : s.kind ≡ playing → low_water p M ≤ parts * s.buffered = λ k. omega (arith, g.floored k, mul-le-mul_left p.c u) in
      search

  pub leads_set : (ss : List (Slot A)) (i : ℕ) (a : Slot A) → lead_of p a ≡ 0 → leads p (set ss i a) ≤ leads p ss
  unfolding leads sum_by
  leads_set [] i a z = omega arith
  leads_set (s ∷ ss) zero a z = omega arith
  leads_set (s ∷ ss) (suc i) a z = omega (arith, leads_set ss i a z)

  free_set : (m i : ℕ) (ss : List (Slot A)) (a : Slot A) → i < m → FreeFrom p m ss → FreeFrom p m (set ss i a)
  free_set m i ss a h u j l = ap (λ (s : Slot A). s.kind) (get_or-set_other ss i j a (free_slot p) (λ e. omega arith)) ∙ u j l

  -- a slot that adds no lead is put in place of another
  goods_set : (ss : List (Slot A)) (i : ℕ) (a : Slot A) → lead_of p a ≡ 0 → ((L : ℕ) → Good p L a)
      → Each (Good p (leads p ss)) ss → Each (Good p (leads p (set ss i a))) (set ss i a)
  goods_set ss i a z g h =
      let M : ℕ = leads p (set ss i a) in
      each_set (Good p M) ss i a (each_map _ _ ss (good_lower (leads p ss) M (leads_set ss i a z)) h) (g M)

  module _ {Q : Type 0} (o : Order A Q) (orderly : Orderly p o) (d : Scheduler A Q) (i : ℕ) where
    pub join_keeps : (b : A) → Sound p o d → Allowed p o d (join i b) → Sound p o (accepted p o d (join i b)).scheduler
    unfolding accepted joined
    join_keeps b h a = record {
      phase = omega arith;
      slots = goods_set d.slots i (waiting_slot p b) (other_lead p (waiting_slot p b) (λ x y. omega arith)) (λ L. good_waiting L b a.3) h.slots;
      unused = free_set p.n i d.slots (waiting_slot p b) a.1 h.unused;
      queue = orderly.queue_joined d.queue d.slots i b a.2 h.queue;
    }

    pub leave_keeps : Sound p o d → Allowed p o d (leave i) → Sound p o (accepted p o d (leave i)).scheduler
    unfolding accepted left
    leave_keeps h a = record {
      phase = omega arith;
      slots = goods_set d.slots i (free_slot p) (other_lead p (free_slot p) (λ x y. omega arith)) (good_free p) h.slots;
      unused = free_set p.n i d.slots (free_slot p) a.1 h.unused;
      queue = orderly.queue_left d.queue d.slots i a.2 h.queue;
    }
