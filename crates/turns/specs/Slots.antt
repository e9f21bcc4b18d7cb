-- A slot by its numbers: whether it reads, whether it is fetched for, its lead and its time.
-- Assumes nothing.
use Rattle.std.specs.Prelude.{ℕ, ◌+◌, ◌*◌, ◌≤◌, ◌<◌, ◌≡◌, ◌⊎◌, Bool, ◌&&◌, eqb}
use Rattle.std.proofs.Math.Path.{refl}
use Rattle.std.proofs.Common.{inl, inr}
use Rattle.std.proofs.Math.Logic.{by_cases}
use Rattle.std.proofs.Math.Bool.{true, false}
use native.Mathlib.Omega.{arith}
use Rattle.std.proofs.Math.Decide.{ℕ_discrete}
use borrow.Author.Tests.{leb-true, leb-false, eqb-true, ne_eqb, le-leb, lt-leb}
use Rattle.laws.specs.Bools.{and_left, and_right, or_cases}
use Rattle.numbers.specs.Units.{parts}
use Rattle.rules.specs.Supply.{Supply}
use Rattle.numbers.specs.Slots.{filling, playing}
use Rattle.rules.specs.Scheduler.{Slot, reads, lead_of, holds, is_fetched, time_of}

module _ {A : Type 0} (p : Supply A) where
  -- ---- filling and playing slots read

  pub reads_yes : (s : Slot A) → 2 ≤ s.kind → s.kind ≤ 3 → reads p s ≡ true
  unfolding reads
  reads_yes s k l = by_cases (ℕ_discrete s.kind 2) (λ e. rw e) (λ e. let q : s.kind ≡ 3 = omega arith in rw q)

  pub reads_no : (s : Slot A) → (2 ≤ s.kind → s.kind ≤ 3 → ⊥) → reads p s ≡ false
  unfolding reads
  reads_no s h = rw (ne_eqb s.kind 2 (λ e. h (omega arith) (omega arith)), ne_eqb s.kind 3 (λ e. h (omega arith) (omega arith)))

  pub reads_kind : (s : Slot A) → reads p s ≡ true → (2 ≤ s.kind) × (s.kind ≤ 3)
  unfolding reads
  reads_kind s e = go (or_cases (eqb s.kind filling) (eqb s.kind playing) e)
    where
      go : (eqb s.kind filling ≡ true) ⊎ (eqb s.kind playing ≡ true) → (2 ≤ s.kind) × (s.kind ≤ 3)
      go (inl q) = omega (arith, eqb-true)
      go (inr q) = omega (arith, eqb-true)

  pub reading_lead : (s : Slot A) → 2 ≤ s.kind → s.kind ≤ 3 → lead_of p s ≡ p.lead s.next
  unfolding lead_of
  reading_lead s k l = rw (reads_yes s k l)

  pub other_lead : (s : Slot A) → (2 ≤ s.kind → s.kind ≤ 3 → ⊥) → lead_of p s ≡ 0
  unfolding lead_of
  other_lead s h = rw (reads_no s h)

  -- ---- those with room for a block are fetched for

  pub fetched_yes : (s : Slot A) → 2 ≤ s.kind → s.kind ≤ 3 → s.buffered + p.B ≤ p.buffer → is_fetched p s ≡ true
  unfolding is_fetched
  fetched_yes s k l r = rw (reads_yes s k l, le-leb (s.buffered + p.B) p.buffer r)

  pub fetched_other : (s : Slot A) → (2 ≤ s.kind → s.kind ≤ 3 → ⊥) → is_fetched p s ≡ false
  unfolding is_fetched
  fetched_other s h = rw (reads_no s h)

  pub fetched_full : (s : Slot A) → p.buffer < s.buffered + p.B → is_fetched p s ≡ false
  unfolding is_fetched
  fetched_full s h = rw (lt-leb (s.buffered + p.B) p.buffer h) (last (reads p s))
    where
      last : (t : Bool) → (t && false) ≡ false
      last true = refl
      last false = refl

  pub fetched_kind : (s : Slot A) → is_fetched p s ≡ true → (2 ≤ s.kind) × (s.kind ≤ 3)
  unfolding is_fetched
  fetched_kind s e = reads_kind s (and_left (reads p s) _ e)

  pub fetched_room : (s : Slot A) → is_fetched p s ≡ true → s.buffered + p.B ≤ p.buffer
  unfolding is_fetched
  fetched_room s e = leb-true (s.buffered + p.B) p.buffer (and_right (reads p s) _ e)

  pub unfetched_full : (s : Slot A) → s.kind ≡ playing → is_fetched p s ≡ false → p.buffer < s.buffered + p.B
  unfolding is_fetched reads
  unfetched_full s k e = leb-false (s.buffered + p.B) p.buffer (rw k at e)

  pub fetched_time : (s : Slot A) → is_fetched p s ≡ true → time_of p s ≡ p.time s.next
  unfolding time_of
  fetched_time s e = rw e

  pub unfetched_time : (s : Slot A) → is_fetched p s ≡ false → time_of p s ≡ 0
  unfolding time_of
  unfetched_time s e = rw e

  -- ---- a slot holds the mark x

  pub holds_yes : (x : ℕ) (s : Slot A) → x ≤ parts * s.buffered → holds p x s ≡ true
  unfolding holds
  holds_yes x s h = le-leb x (parts * s.buffered) h

  pub holds_no : (x : ℕ) (s : Slot A) → parts * s.buffered < x → holds p x s ≡ false
  unfolding holds
  holds_no x s h = lt-leb x (parts * s.buffered) h
