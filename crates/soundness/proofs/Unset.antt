-- One turn of the loops that test the slots: bits that are set where a slot is not tidy, and those that ask counted.
-- Assumes nothing.
use Prim.Native.Nat.{ℕ, ◌+◌, ◌≤◌, ◌<◌}
use mathlib.Core.Path.{◌≡◌, refl, sym, ap, ap₂, ◌∙◌}
use mathlib.Core.Logic.{◌≢◌, by_cases}
use native.Mathlib.Omega.{arith}
use native.Mathlib.Decide.{ℕ_discrete}
use borrow.Author.Count.{below_more}
use lib.ListN.{length, get_or, take}
use lib.Bits.{bit_or}
use lib.Dec.{eqb}
use Rattle.laws.specs.Bools.{bit}
use Rattle.numbers.specs.Slots.{waiting}
use Rattle.desk.specs.declared.Desk.{Desk}
use Rattle.desk.specs.Asked.{asked_count, asked_none, asked_turn_law}
use Rattle.soundness.specs.Facts.{TidyAt}
use Rattle.soundness.proofs.Tells.{none_set, both_unset}

module _ (d : Desk) (n : ℕ) where
  -- slot j is tidy, and has no place where it does not ask
  abbrev Passes : ℕ → Type 0
  Passes j = TidyAt d j × (get_or d.kinds j 0 ≢ waiting → get_or d.places j 0 ≡ 0)

  -- no bit is set in the first i slots where they pass, and only there; those that ask are counted
  pub record Unset (bits asked i : ℕ) : Type 0 where
    pub few : i ≤ n
    pub tidy : bits ≡ 0 → (j : ℕ) → j < i → Passes j
    pub unset : ((j : ℕ) → j < i → Passes j) → bits ≡ 0
    pub low : asked ≤ i
    pub count : asked ≡ asked_count (take i d.kinds)

  pub unset_none : Unset 0 0 0
  unset_none = record {
    few = omega arith;
    tidy = λ _ j h. absurd (omega arith);
    unset = λ _. refl;
    low = omega arith;
    count = sym (asked_none d.kinds);
  }

  -- slot i has kind k and place p, its bits are u, and v is its place where it does not ask; a counts it where it asks
  module _ (bits asked i : ℕ) (inv : Unset bits asked i) (l : i < n) (long : n ≤ length d.kinds) (u v a k p : ℕ) (kind : k ≡ get_or d.kinds i 0)
      (place : p ≡ get_or d.places i 0) (slot : (u ≡ 0 → TidyAt d i) × (TidyAt d i → u ≡ 0)) (idle : (k ≡ waiting → v ≡ 0) × (k ≢ waiting → v ≡ p))
      (adds : (a ≡ bit (eqb k waiting)) × (a ≤ 1)) where
    passes : u ≡ 0 → v ≡ 0 → Passes i
    passes e z = (slot.0 e, λ m. sym place ∙ sym (idle.1 (λ w. m (sym kind ∙ w))) ∙ z)

    unset_at : Passes i → (u ≡ 0) × (v ≡ 0)
    unset_at t = (slot.1 t.0, by_cases (ℕ_discrete k waiting) idle.0 (λ m. idle.1 m ∙ place ∙ t.1 (λ w. m (kind ∙ w))))

    pub unset_next : Unset (bit_or bits (bit_or u v)) (asked + a) (i + 1)
    unset_next = record {
      few = omega arith;
      tidy = λ e. let z = both_unset e in
          let y = both_unset z.1 in
          below_more _ i (inv.tidy z.0) (passes y.0 y.1);
      unset = λ t. let b = unset_at (t i (omega arith)) in none_set (inv.unset (λ j h. t j (omega arith))) (none_set b.0 b.1);
      low = omega (arith, inv.low, adds.1);
      count = ap₂ (λ (m q : ℕ). m + q) inv.count (adds.0 ∙ ap (λ (x : ℕ). bit (eqb x waiting)) kind) ∙ asked_turn_law d.kinds i (omega arith);
    }
