-- How many slots ask, by the kinds of a desk.
-- Assumes nothing.
use Prim.Native.Nat.{ℕ, zero, suc, ◌+◌, ◌≤◌, ◌<◌}
use Rattle.std.specs.Prelude.{◌≡◌, length, get_or, take, drop, eqb}
use Rattle.std.proofs.Math.Path.{refl}
use Rattle.std.proofs.Common.{sym, arith}
use mathlib.Core.List.{List, [], ◌∷◌}
use Rattle.laws.specs.Bools.{bit}
use Rattle.laws.specs.Runs.{sum_by, sum_turn}
use Rattle.numbers.specs.Slots.{free, waiting}
use Rattle.rules.specs.Supply.{Supply}
use Rattle.rules.specs.Order.{waiting_count}
use Rattle.rules.specs.Arrays.{slots_of}
use Rattle.turns.specs.Facts.{FreeFrom}

unfoldable pub asked_count : List ℕ → ℕ
asked_count ks = sum_by (λ k. bit (eqb k waiting)) ks

-- one turn of the loop that counts
pub asked_none : (ks : List ℕ) → asked_count (take 0 ks) ≡ 0
unfolding asked_count sum_by
asked_none ks = refl

pub asked_turn_law : (ks : List ℕ) (i : ℕ) → i < length ks → asked_count (take i ks) + bit (eqb (get_or ks i 0) waiting) ≡ asked_count (take (i + 1) ks)
unfolding asked_count
asked_turn_law ks i h = let e : i + 1 ≡ suc i = omega arith in rw e (sym (sum_turn 0 (λ k. bit (eqb k waiting)) ks i h))

module _ (p : Supply ℕ) where
  -- they are the rules' waiting slots
  pub asked_slots : (ks xs hs : List ℕ) → waiting_count p (slots_of p ks xs hs) ≡ asked_count ks
  unfolding asked_count waiting_count sum_by slots_of
  asked_slots [] xs hs = refl
  asked_slots (k ∷ ks) xs hs = omega (arith, asked_slots ks (drop 1 xs) (drop 1 hs))

  -- none from n on, where the slots are free
  pub asked_first : (n : ℕ) (ks xs hs : List ℕ) → FreeFrom p n (slots_of p ks xs hs) → asked_count (take n ks) ≡ asked_count ks
  unfolding asked_count sum_by slots_of
  asked_first zero [] xs hs u = refl
  asked_first (suc n) [] xs hs u = refl
  asked_first zero (k ∷ ks) xs hs u = let z : k ≡ free = u 0 (omega arith) in
      rw z (omega (arith, asked_first zero ks (drop 1 xs) (drop 1 hs) (λ i l. u (suc i) (omega arith))))
  asked_first (suc n) (k ∷ ks) xs hs u = omega (arith, asked_first n ks (drop 1 xs) (drop 1 hs) (λ i l. u (suc i) (omega arith)))
