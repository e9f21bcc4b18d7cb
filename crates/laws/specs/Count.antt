-- Counting the numbers below n that pass a test, and the pigeonhole: an injective map puts at most k arguments into k places in a row.
-- Assumes nothing.
use Prim.Native.Nat.{ℕ, zero, suc, ◌+◌, ◌-◌, ◌≤◌, ◌<◌}
use Rattle.std.specs.Prelude.{◌≡◌, Bool, ◌&&◌, ltb}
use Rattle.std.proofs.Math.Path.{refl, sym}
use Rattle.std.proofs.Common.{◌∙◌}
use Rattle.std.proofs.Math.Bool.{true, false, not}
use native.Mathlib.Omega.{arith}
use Rattle.std.proofs.Math.Dec.{eqb}
use borrow.Author.Tests.{ltb-true, ltb-false, eqb-true, eq-eqb, ne_eqb}
use Rattle.laws.specs.Bools.{bit, is_false, and_left, and_right, and_other}

-- how many b below n pass
unfoldable pub count : (ℕ → Bool) → ℕ → ℕ
count f zero = 0
count f (suc n) = bit (f n) + count f n

module _ (f : ℕ → Bool) where
  pub count_none : (n : ℕ) → ((b : ℕ) → b < n → f b ≡ false) → count f n ≡ 0
  unfolding count
  count_none zero h = refl
  count_none (suc n) h = rw (h n (omega arith)) (omega (arith, count_none n (λ b l. h b (omega arith))))

  pub count_not : (n : ℕ) → count f n + count (λ b. not (f b)) n ≡ n
  unfolding count
  count_not zero = refl
  count_not (suc n) = go (f n) (count_not n)
    where
      go : (t : Bool) → count f n + count (λ b. not (f b)) n ≡ n → bit t + count f n + (bit (not t) + count (λ b. not (f b)) n) ≡ suc n
      go true ih = omega arith
      go false ih = omega arith

-- a test that implies one of two is counted by both
pub count_or : (f g h : ℕ → Bool) (n : ℕ) → ((b : ℕ) → b < n → f b ≡ true → g b ≡ false → h b ≡ true) → count f n ≤ count g n + count h n
unfolding count
count_or f g h zero i = omega arith
count_or f g h (suc n) i = go (f n) (g n) (h n) (i n (omega arith)) (count_or f g h n (λ b l. i b (omega arith)))
  where
    go : (x y z : Bool) → (x ≡ true → y ≡ false → z ≡ true) → count f n ≤ count g n + count h n
        → bit x + count f n ≤ bit y + count g n + (bit z + count h n)
    go false y z k ih = omega arith
    go true true z k ih = omega arith
    go true false z k ih = rw (k refl refl) (omega arith)

module _ (n : ℕ) (l : ℕ → ℕ) (inj : (a b : ℕ) → a < n → b < n → l a ≡ l b → a ≡ b) where
  -- at most one argument goes to a place
  pub count_one : (q m : ℕ) → m ≤ n → count (λ b. eqb (l b) q) m ≤ 1
  unfolding count
  count_one q zero u = omega arith
  count_one q (suc m) u = go (eqb (l m) q) refl (count_one q m (omega arith))
    where
      go : (t : Bool) → eqb (l m) q ≡ t → count (λ b. eqb (l b) q) m ≤ 1 → bit t + count (λ b. eqb (l b) q) m ≤ 1
      go false e ih = omega arith
      go true e ih =
          omega (
            arith,
            count_none (λ b. eqb (l b) q) m (λ b h.
                ne_eqb (l b) q (λ x. absurd (omega (arith, inj b m (omega arith) u (x ∙ sym (eqb-true (l m) q e)))))),
          )

  -- at most k of those that go to the k places from lo on
  pub pigeons : (lo k : ℕ) (f : ℕ → Bool) → ((b : ℕ) → b < n → f b ≡ true → (lo ≤ l b) × (l b < lo + k)) → count f n ≤ k
  pigeons lo zero f h = omega (arith, count_none f n (λ b u. is_false (f b) (λ e. omega (arith, h b u e))))
  pigeons lo (suc k) f h =
      omega (arith, count_or f low top n split, count_one (lo + k) n (omega arith), pigeons lo k low below)
    where
      low : ℕ → Bool
      low b = ltb (l b) (lo + k) && f b

      top : ℕ → Bool
      top b = eqb (l b) (lo + k)

      split : (b : ℕ) → b < n → f b ≡ true → low b ≡ false → top b ≡ true
      split b u e d = eq-eqb (l b) (lo + k) (omega (arith, h b u e, ltb-false, and_other (ltb (l b) (lo + k)) (f b) e d))

      below : (b : ℕ) → b < n → low b ≡ true → (lo ≤ l b) × (l b < lo + k)
      below b u e = omega (arith, h b u (and_right (ltb (l b) (lo + k)) (f b) e), ltb-true, and_left (ltb (l b) (lo + k)) (f b) e)
