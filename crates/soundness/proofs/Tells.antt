-- Tests that tell of facts.
-- Assumes nothing.
use Prim.Native.Nat.{ℕ, zero, suc, ◌≤◌, ◌<◌}
use mathlib.Core.Path.{◌≡◌, refl, sym, ◌∙◌}
use mathlib.Core.Bool.{Bool, true, false, ◌&&◌}
use mathlib.Core.Logic.{◌≢◌, by_cases}
use native.Mathlib.Omega.{arith}
use native.Mathlib.Decide.{ℕ_discrete}
use lib.Bits.{bit_or, or_add_and, and_le_l, and_le_r}
use lib.Dec.{leb, eqb}
use borrow.Author.Tests.{leb-true, eqb-false, le-leb, ne_eqb}
use Rattle.laws.specs.Bools.{clash}
use Rattle.numbers.specs.Slots.{free, filling, draining}
use Rattle.numbers.specs.Showings.{loop_word}
use Rattle.soundness.specs.Facts.{Tells, LastKind, TidyWithin}

pub tells_yes : {P : Type 0} → P → Tells true P
tells_yes p = record { yes = λ _. p; no = λ e _. clash refl e }

pub tells_within : {P : Type 0} (a b : ℕ) → (a ≤ b → P) → (P → a ≤ b) → Tells (leb a b) P
tells_within a b f g = record { yes = λ e. f (leb-true a b e); no = λ e p. clash (le-leb a b (g p)) e }

-- no bit is set in two numbers where both are zero
pub none_set : {a b : ℕ} → a ≡ 0 → b ≡ 0 → bit_or a b ≡ 0
none_set {a} {b} x y = omega (arith, or_add_and a b)

pub both_unset : {a b : ℕ} → bit_or a b ≡ 0 → (a ≡ 0) × (b ≡ 0)
both_unset {a} {b} e = omega (arith, or_add_and a b, and_le_l a b, and_le_r a b)

-- a number that is kept where so, else 0
abbrev pub Kept : Bool → ℕ → ℕ → Type 0
Kept so bits r = (so ≡ true → r ≡ bits) × (so ≡ false → r ≡ 0)

pub kept_zero : {so : Bool} {bits r : ℕ} → Kept so bits r → r ≡ 0 → so ≡ true → bits ≡ 0
kept_zero k z e = sym (k.0 e) ∙ z

pub zero_kept : (so : Bool) {bits r : ℕ} → Kept so bits r → (so ≡ true → bits ≡ 0) → r ≡ 0
zero_kept true k z = k.0 refl ∙ z refl
zero_kept false k z = k.1 refl

pub not_zero : (h : ℕ) → eqb h 0 ≡ false → 1 ≤ h
not_zero zero e = absurd (eqb-false 0 0 e refl)
not_zero (suc h) e = omega arith

pub zero_not : (h : ℕ) → 1 ≤ h → eqb h 0 ≡ false
zero_not h l = ne_eqb h 0 (λ e. omega arith)

-- what no bit says of a slot; top is the greatest kind, end that of the blocks that it may name
pub record Clear (top N buffer end k x h : ℕ) : Type 0 where
  pub known : k ≤ top
  pub fits : h ≤ buffer
  pub empty : k < filling → h ≡ 0
  pub named : k < draining → x < end
  pub past : k ≡ draining → x ≡ N
  pub some : k ≡ draining → 1 ≤ h

module _ {w top N end k : ℕ} (last : LastKind w top) (ends : (k ≡ free → end ≡ 1) × (k ≢ free → end ≡ N)) {buffer x h : ℕ} where
  -- it is tidy just there
  pub clear_tidy : Clear top N buffer end k x h → TidyWithin w N buffer k x h
  clear_tidy c = record {
    kinds = by_cases (ℕ_discrete w loop_word) (λ e. omega (arith, last.0 e, c.known)) (λ e. omega (arith, last.1 e, c.known));
    zeros = λ e. (omega (arith, c.named (omega arith), ends.0 e), c.empty (omega arith));
    empty = λ e. c.empty (omega arith);
    named = λ a b. omega (arith, c.named (omega arith), ends.1 (λ e. omega arith));
    ends = λ e l. omega (arith, last.0 l, c.known);
    past = c.past;
    some = c.some;
    fits = c.fits;
  }

  pub tidy_clear : TidyWithin w N buffer k x h → Clear top N buffer end k x h
  tidy_clear t = record {
    known = by_cases (ℕ_discrete w loop_word)
        (λ e. by_cases (ℕ_discrete k draining) (λ d. absurd (t.ends d e)) (λ d. omega (arith, last.0 e, t.kinds)))
        (λ e. omega (arith, last.1 e, t.kinds));
    fits = t.fits;
    empty = λ l. by_cases (ℕ_discrete k free) (λ e. (t.zeros e).1) (λ e. t.empty (omega arith));
    named = λ l. by_cases (ℕ_discrete k free)
        (λ e. omega (arith, ends.0 e, t.zeros e))
        (λ e. omega (arith, ends.1 e, t.named (omega arith) (omega arith)));
    past = t.past;
    some = t.some;
  }

-- two tests in a row
pub fails_first : (a b : Bool) → a ≡ false → false ≡ (a && b)
fails_first a b e = sym (rw e)

pub then_second : (a r b : Bool) → a ≡ true → r ≡ b → r ≡ (a && b)
then_second a r b e q = rw e q
