-- Soundness of the scheduler's record, as facts: a record passes the test if and only if they hold.
-- Assumes nothing.
use Prim.Native.Nat.{ℕ, zero, suc, ◌-◌, ◌*◌, ◌≤◌}
use Rattle.std.specs.Prelude.{◌≡◌, true, ◌&&◌, get_or, drop, replicate, eqb}
use Rattle.std.proofs.Math.Path.{refl}
use Rattle.std.proofs.Common.{sym, ap, ◌∙◌, arith, get_or-drop}
use mathlib.Core.List.{List, [], ◌∷◌}
use Rattle.std.proofs.Math.Dec.{leb}
use borrow.Author.Tests.{leb-true, eqb-true, eq-eqb, le-leb}
use Rattle.laws.specs.Bools.{implies, implied, implies_of, and_says, and_both}
use Rattle.laws.specs.Runs.{all_by}
use Rattle.laws.specs.Each.{Each, each_map, each_at, each_of_all, all_of_each}
use Rattle.numbers.specs.Slots.{free, waiting, playing, draining, sweeping}
use Rattle.numbers.specs.Units.{parts}
use Rattle.rules.specs.Supply.{Supply, Named}
use Rattle.rules.specs.Scheduler.{Slot, free_slot, at, leads, low_water, holds}
use Rattle.rules.specs.Order.{Scheduler, Order}
use Rattle.rules.specs.Sound.{is_zero, sound_slot, sound}

module _ {A : Type 0} (p : Supply A) where
  -- a slot, in the order of its test; some: a tail holds something
  pub record Good (L : ℕ) (s : Slot A) : Type 0 where
    pub kinds : s.kind ≤ draining
    pub zeros : s.kind ≡ free → (s.next ≡ p.none) × (s.buffered ≡ 0)
    pub empty : s.kind ≡ waiting → s.buffered ≡ 0
    pub named : waiting ≤ s.kind → s.kind ≤ playing → p.is_block s.next ≡ true
    pub past : s.kind ≡ draining → p.is_end s.next ≡ true
    pub some : s.kind ≡ draining → 1 ≤ s.buffered
    pub fits : s.buffered ≤ p.buffer
    pub floored : s.kind ≡ playing → low_water p L ≤ parts * s.buffered

  -- the slots from m on are free
  abbrev pub FreeFrom : ℕ → List (Slot A) → Type 0
  FreeFrom m ss = (i : ℕ) → m ≤ i → (at p ss i).kind ≡ free

  pub record Sound {Q : Type 0} (o : Order A Q) (d : Scheduler A Q) : Type 0 where
    pub phase : d.phase ≤ sweeping
    pub slots : Each (Good (leads p d.slots)) d.slots
    pub unused : FreeFrom p.n d.slots
    pub queue : o.queue_sound d.queue d.slots ≡ true

  -- n slots of the opening
  pub replicate_free : (n i : ℕ) → (at p (replicate n (free_slot p)) i).kind ≡ free
  replicate_free zero i = refl
  replicate_free (suc n) zero = refl
  replicate_free (suc n) (suc i) = replicate_free n i

  -- a good slot by its kind
  pub good_zero : (L : ℕ) (s : Slot A) → s.kind ≡ free → s.next ≡ p.none → s.buffered ≡ 0 → Good L s
  good_zero L s k x h = record {
    kinds = omega arith;
    zeros = λ _. (x, h);
    empty = λ _. h;
    named = λ z. absurd (omega arith);
    past = λ z. absurd (omega arith);
    some = λ z. absurd (omega arith);
    fits = omega arith;
    floored = λ z. absurd (omega arith);
  }

  pub good_block : (L : ℕ) (s : Slot A) → waiting ≤ s.kind → s.kind ≤ playing → p.is_block s.next ≡ true → (s.kind ≡ waiting → s.buffered ≡ 0)
      → s.buffered ≤ p.buffer → (s.kind ≡ playing → low_water p L ≤ parts * s.buffered) → Good L s
  good_block L s k l x e h f = record {
    kinds = omega arith;
    zeros = λ z. absurd (omega arith);
    empty = e;
    named = λ _ _. x;
    past = λ z. absurd (omega arith);
    some = λ z. absurd (omega arith);
    fits = h;
    floored = f;
  }

  pub good_free : (L : ℕ) → Good L (free_slot p)
  good_free L = good_zero L (free_slot p) refl refl refl

  module _ (names : Named p) where
    zero_says : (s : Slot A) → is_zero p s ≡ true → (s.kind ≡ free) × (s.next ≡ p.none) × (s.buffered ≡ 0)
    unfolding is_zero
    zero_says s e =
        let t = and_says (eqb s.kind free) _ e in
        let t₁ = and_says (p.is_none s.next) _ t.1 in
        (eqb-true s.kind free t.0, names.none_only s.next t₁.0, eqb-true s.buffered 0 t₁.1)

    of_zero : (s : Slot A) → s.kind ≡ free → s.next ≡ p.none → s.buffered ≡ 0 → is_zero p s ≡ true
    unfolding is_zero
    of_zero s k x b = and_both (eq-eqb s.kind free k) (and_both (ap p.is_none x ∙ names.none_passes) (eq-eqb s.buffered 0 b))

    -- a slot that passes is good
    pub good_of_sound : (L : ℕ) (s : Slot A) → sound_slot p L s ≡ true → Good L s
    unfolding sound_slot holds
    good_of_sound L s e =
        let k = s.kind in
        let t = and_says (leb k draining) _ e in
        let t₁ = and_says (implies (eqb k free) (is_zero p s)) _ t.1 in
        let t₂ = and_says (implies (eqb k waiting) (eqb s.buffered 0)) _ t₁.1 in
        let t₃ = and_says (implies (leb waiting k && leb k playing) (p.is_block s.next)) _ t₂.1 in
        let t₄ = and_says (implies (eqb k draining) (p.is_end s.next)) _ t₃.1 in
        let t₅ = and_says (implies (eqb k draining) (leb 1 s.buffered)) _ t₄.1 in
        let t₆ = and_says (leb s.buffered p.buffer) _ t₅.1 in
        record {
          kinds = leb-true k draining t.0;
          zeros = λ h. let z = zero_says s (implied (eqb k free) _ t₁.0 (eq-eqb k free h)) in (z.1, z.2);
          empty = λ h. eqb-true s.buffered 0 (implied (eqb k waiting) _ t₂.0 (eq-eqb k waiting h));
          named = λ l h. implied (leb waiting k && leb k playing) _ t₃.0 (and_both (le-leb waiting k l) (le-leb k playing h));
          past = λ h. implied (eqb k draining) _ t₄.0 (eq-eqb k draining h);
          some = λ h. leb-true 1 s.buffered (implied (eqb k draining) _ t₅.0 (eq-eqb k draining h));
          fits = leb-true s.buffered p.buffer t₆.0;
          floored = λ h. leb-true (low_water p L) (parts * s.buffered) (implied (eqb k playing) _ t₆.1 (eq-eqb k playing h));
        }

    -- and a good one passes
    pub sound_of_good : (L : ℕ) (s : Slot A) → Good L s → sound_slot p L s ≡ true
    unfolding sound_slot holds
    sound_of_good L s g =
        let k = s.kind in
        let h = s.buffered in
        and_both (le-leb k draining g.kinds)
        (and_both (implies_of (eqb k free) (is_zero p s) (λ e. let z = g.zeros (eqb-true k free e) in of_zero s (eqb-true k free e) z.0 z.1))
        (and_both (implies_of (eqb k waiting) (eqb h 0) (λ e. eq-eqb h 0 (g.empty (eqb-true k waiting e))))
        (and_both (implies_of (leb waiting k && leb k playing) (p.is_block s.next)
        (λ e. let t = and_says (leb waiting k) _ e in g.named (leb-true waiting k t.0) (leb-true k playing t.1)))
        (and_both (implies_of (eqb k draining) (p.is_end s.next) (λ e. g.past (eqb-true k draining e)))
        (and_both (implies_of (eqb k draining) (leb 1 h) (λ e. le-leb 1 h (g.some (eqb-true k draining e))))
        (and_both (le-leb h p.buffer g.fits)
        (implies_of (eqb k playing) (leb (low_water p L) (parts * h)) (λ e. le-leb (low_water p L) (parts * h) (g.floored (eqb-true k playing e))))))))))

    free_of_zero : (m : ℕ) (ss : List (Slot A)) → all_by (is_zero p) (drop m ss) ≡ true → FreeFrom m ss
    free_of_zero m ss e i l =
        let z = each_at (λ s. s.kind ≡ free) (drop m ss) (i - m) (free_slot p)
        (each_map _ _ (drop m ss) (λ s u. (zero_says s u).0) (each_of_all (is_zero p) (drop m ss) e)) refl in
        let q : get_or (drop m ss) (i - m) (free_slot p) ≡ at p ss i = get_or-drop m ss (i - m) (free_slot p) ∙ ap (λ (k : ℕ). at p ss k) (omega arith) in
        sym (ap (λ (s : Slot A). s.kind) q) ∙ z

    zero_of_free : (L m : ℕ) (ss : List (Slot A)) → Each (Good L) ss → FreeFrom m ss → all_by (is_zero p) (drop m ss) ≡ true
    unfolding all_by
    zero_of_free L zero [] g u = refl
    zero_of_free L (suc m) [] g u = refl
    zero_of_free L zero (s ∷ ss) g u =
        let k = u 0 (omega arith) in
        and_both (of_zero s k (g.0.zeros k).0 (g.0.zeros k).1) (zero_of_free L zero ss g.1 (λ i l. u (suc i) (omega arith)))
    zero_of_free L (suc m) (s ∷ ss) g u = zero_of_free L m ss g.1 (λ i l. u (suc i) (omega arith))

    -- a record passes the test if and only if the facts hold
    pub sound_says : {Q : Type 0} (o : Order A Q) (d : Scheduler A Q) → sound p o d ≡ true → Sound o d
    unfolding sound
    sound_says o d e =
        let L = leads p d.slots in
        let t = and_says (leb d.phase sweeping) _ e in
        let t₁ = and_says (all_by (sound_slot p L) d.slots) _ t.1 in
        let t₂ = and_says (all_by (is_zero p) (drop p.n d.slots)) _ t₁.1 in
        record {
          phase = leb-true d.phase sweeping t.0;
          slots = each_map _ _ d.slots (good_of_sound L) (each_of_all (sound_slot p L) d.slots t₁.0);
          unused = free_of_zero p.n d.slots t₂.0;
          queue = t₂.1;
        }

    pub says_sound : {Q : Type 0} (o : Order A Q) (d : Scheduler A Q) → Sound o d → sound p o d ≡ true
    unfolding sound
    says_sound o d h =
        let L = leads p d.slots in
        and_both (le-leb d.phase sweeping h.phase)
        (and_both (all_of_each (sound_slot p L) d.slots (each_map _ _ d.slots (sound_of_good L) h.slots))
        (and_both (zero_of_free L p.n d.slots h.slots h.unused) h.queue))
