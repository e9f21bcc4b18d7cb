-- Loads and stores in the three arrays of a list of slots.
-- Assumes nothing.
use Prim.Native.Nat.{ℕ, zero, suc}
use Rattle.std.specs.Prelude.{◌≡◌, length, get_or, set, drop}
use Rattle.std.proofs.Math.Path.{refl, ap}
use Rattle.std.proofs.Common.{sym, ◌∙◌, arith}
use mathlib.Core.List.{List, [], ◌∷◌, map}
use Rattle.std.proofs.lemmas.List.{set-get_or}
use Rattle.rules.specs.Supply.{Supply}
use Rattle.rules.specs.Scheduler.{Slot, at}
use Rattle.rules.specs.Arrays.{slot_of, slots_of}

module _ {A : Type 0} (p : Supply A) where
  pub length_slots : (ks : List ℕ) (xs : List A) (hs : List ℕ) → length (slots_of p ks xs hs) ≡ length ks
  unfolding slots_of
  length_slots [] xs hs = refl
  length_slots (k ∷ ks) xs hs = ap suc (length_slots ks (drop 1 xs) (drop 1 hs))

  -- any list of slots comes from three arrays
  pub slots_back : (ss : List (Slot A)) → slots_of p (map (λ s. s.kind) ss) (map (λ s. s.next) ss) (map (λ s. s.buffered) ss) ≡ ss
  unfolding slots_of
  slots_back [] = refl
  slots_back (s ∷ ss) = ap (λ r. s ∷ r) (slots_back ss)

  -- three arrays as long as each other
  pub record SameLength (ks : List ℕ) (xs : List A) (hs : List ℕ) : Type 0 where
    pub nexts : length xs ≡ length ks
    pub helds : length hs ≡ length ks

  -- a load
  pub slot_at : (ks : List ℕ) (xs : List A) (hs : List ℕ) → SameLength ks xs hs → (i : ℕ)
      → at p (slots_of p ks xs hs) i ≡ slot_of p (get_or ks i 0) (get_or xs i p.none) (get_or hs i 0)
  unfolding slots_of
  slot_at [] [] [] e i = refl
  slot_at [] [] (h ∷ hs) e i = absurd (omega (arith, e.helds))
  slot_at [] (x ∷ xs) hs e i = absurd (omega (arith, e.nexts))
  slot_at (k ∷ ks) [] hs e i = absurd (omega (arith, e.nexts))
  slot_at (k ∷ ks) (x ∷ xs) [] e i = absurd (omega (arith, e.helds))
  slot_at (k ∷ ks) (x ∷ xs) (h ∷ hs) e zero = refl
  slot_at (k ∷ ks) (x ∷ xs) (h ∷ hs) e (suc i) = slot_at ks xs hs (record { nexts = omega (arith, e.nexts); helds = omega (arith, e.helds) }) i

  -- three stores
  pub slots_set : (ks : List ℕ) (xs : List A) (hs : List ℕ) → SameLength ks xs hs → (i a : ℕ) (b : A) (c : ℕ)
      → slots_of p (set ks i a) (set xs i b) (set hs i c) ≡ set (slots_of p ks xs hs) i (slot_of p a b c)
  unfolding slots_of
  slots_set [] [] [] e i a b c = refl
  slots_set [] [] (h ∷ hs) e i a b c = absurd (omega (arith, e.helds))
  slots_set [] (x ∷ xs) hs e i a b c = absurd (omega (arith, e.nexts))
  slots_set (k ∷ ks) [] hs e i a b c = absurd (omega (arith, e.nexts))
  slots_set (k ∷ ks) (x ∷ xs) [] e i a b c = absurd (omega (arith, e.helds))
  slots_set (k ∷ ks) (x ∷ xs) (h ∷ hs) e zero a b c = refl
  slots_set (k ∷ ks) (x ∷ xs) (h ∷ hs) e (suc i) a b c =
      ap (λ r. slot_of p k x h ∷ r) (slots_set ks xs hs (record { nexts = omega (arith, e.nexts); helds = omega (arith, e.helds) }) i a b c)

  -- fewer stores
  pub slots_set_kind : (ks : List ℕ) (xs : List A) (hs : List ℕ) → SameLength ks xs hs → (i a : ℕ)
      → slots_of p (set ks i a) xs hs ≡ set (slots_of p ks xs hs) i (slot_of p a (get_or xs i p.none) (get_or hs i 0))
  slots_set_kind ks xs hs e i a =
      ap (λ ys. slots_of p (set ks i a) ys hs) (sym (set-get_or xs i p.none))
      ∙ ap (λ ys. slots_of p (set ks i a) (set xs i (get_or xs i p.none)) ys) (sym (set-get_or hs i 0))
      ∙ slots_set ks xs hs e i a (get_or xs i p.none) (get_or hs i 0)

  -- the arrays of a list of slots
  pub kinds_of_slots : (ks : List ℕ) (xs : List A) (hs : List ℕ) → map (λ s. s.kind) (slots_of p ks xs hs) ≡ ks
  unfolding slots_of
  kinds_of_slots [] xs hs = refl
  kinds_of_slots (k ∷ ks) xs hs = ap (λ r. k ∷ r) (kinds_of_slots ks (drop 1 xs) (drop 1 hs))

  pub nexts_of_slots : (ks : List ℕ) (xs : List A) (hs : List ℕ) → length xs ≡ length ks → map (λ s. s.next) (slots_of p ks xs hs) ≡ xs
  unfolding slots_of
  nexts_of_slots [] [] hs e = refl
  nexts_of_slots [] (x ∷ xs) hs e = absurd (omega arith)
  nexts_of_slots (k ∷ ks) [] hs e = absurd (omega arith)
  nexts_of_slots (k ∷ ks) (x ∷ xs) hs e = ap (λ r. x ∷ r) (nexts_of_slots ks xs (drop 1 hs) (omega arith))

  pub helds_of_slots : (ks : List ℕ) (xs : List A) (hs : List ℕ) → length hs ≡ length ks → map (λ s. s.buffered) (slots_of p ks xs hs) ≡ hs
  unfolding slots_of
  helds_of_slots [] xs [] e = refl
  helds_of_slots [] xs (h ∷ hs) e = absurd (omega arith)
  helds_of_slots (k ∷ ks) xs [] e = absurd (omega arith)
  helds_of_slots (k ∷ ks) xs (h ∷ hs) e = ap (λ r. h ∷ r) (helds_of_slots ks (drop 1 xs) hs (omega arith))
