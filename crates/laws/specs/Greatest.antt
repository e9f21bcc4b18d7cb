-- The greatest value of a function below a bound, and the greatest number up to a bound that passes a test.
-- Assumes nothing.
use Rattle.std.specs.Prelude.{ℕ, zero, suc, ◌+◌, ◌-◌, ◌≤◌, ◌<◌, max, ◌≡◌, refl, Bool, true, false, cond, leb}
use Rattle.std.proofs.Math.Logic.{by_cases}
use Rattle.std.proofs.Common.{arith, leb-true, leb-false}
use Rattle.std.proofs.Math.Decide.{dec_lt, ℕ_discrete}

-- the greatest of g 0 .. g (n - 1), and 0 for none
unfoldable pub greatest_of : (ℕ → ℕ) → ℕ → ℕ
greatest_of g zero = 0
greatest_of g (suc n) = max (g n) (greatest_of g n)

pub greatest_of_above : (g : ℕ → ℕ) (n b : ℕ) → b < n → g b ≤ greatest_of g n
unfolding greatest_of
greatest_of_above g zero b h = absurd (omega arith)
greatest_of_above g (suc n) b h = go (ℕ_discrete b n) (λ l. greatest_of_above g n b l)
  where
    go : Dec (b ≡ n) → (b < n → g b ≤ greatest_of g n) → g b ≤ max (g n) (greatest_of g n)
    go (yes e) ih = rw e (omega arith)
    go (no e) ih = omega (arith, ih (omega arith))

pub greatest_of_least : (g : ℕ → ℕ) (n W : ℕ) → ((b : ℕ) → b < n → g b ≤ W) → greatest_of g n ≤ W
unfolding greatest_of
greatest_of_least g zero W h = omega arith
greatest_of_least g (suc n) W h = omega (arith, h n (omega arith), greatest_of_least g n W (λ b u. h b (omega arith)))

pub greatest_of_same : (g h : ℕ → ℕ) (n : ℕ) → ((b : ℕ) → b < n → g b ≡ h b) → greatest_of g n ≡ greatest_of h n
unfolding greatest_of
greatest_of_same g h zero e = refl
greatest_of_same g h (suc n) e = omega (arith, e n (omega arith), greatest_of_same g h n (λ b u. e b (omega arith)))

-- one of them is the greatest
pub greatest_of_reached : (g : ℕ → ℕ) (n : ℕ) → 0 < n → (b : ℕ) × (b < n) × (g b ≡ greatest_of g n)
unfolding greatest_of
greatest_of_reached g zero h = absurd (omega arith)
greatest_of_reached g (suc zero) h = (0, omega arith, omega arith)
greatest_of_reached g (suc (suc n)) h = go (dec_lt (g (suc n)) (greatest_of g (suc n))) (greatest_of_reached g (suc n) (omega arith))
  where
    go : Dec (g (suc n) < greatest_of g (suc n)) → (b : ℕ) × (b < suc n) × (g b ≡ greatest_of g (suc n))
        → (b : ℕ) × (b < suc (suc n)) × (g b ≡ max (g (suc n)) (greatest_of g (suc n)))
    go (yes d) (b, u, e) = (b, omega arith, omega arith)
    go (no d) r = (suc n, omega arith, omega arith)

-- ---- where the greatest is reached first

-- the first b of n from i on at which g reaches w
unfoldable pub first_reaching : (ℕ → ℕ) → ℕ → ℕ → ℕ → ℕ
first_reaching g w i zero = i
first_reaching g w i (suc n) = cond (leb w (g i)) i (first_reaching g w (suc i) n)

-- the earliest b below n whose g b is the greatest of g 0 .. g (n - 1)
unfoldable pub earliest_of : (ℕ → ℕ) → ℕ → ℕ
earliest_of g n = first_reaching g (greatest_of g n) 0 n

-- what that is: one of them, it reaches the greatest, and none before it does
pub record Earliest (g : ℕ → ℕ) (n b : ℕ) : Type 0 where
  pub below : b < n
  pub reached : g b ≡ greatest_of g n
  pub first : (a : ℕ) → a < b → g a < greatest_of g n

-- no other number has this
pub earliest_unique : (g : ℕ → ℕ) (n a b : ℕ) → Earliest g n a → Earliest g n b → a ≡ b
earliest_unique g n a b x y = go (dec_lt a b) (dec_lt b a)
  where
    go : Dec (a < b) → Dec (b < a) → a ≡ b
    go (yes h) e = absurd (omega (arith, y.first a h, x.reached))
    go (no h) (yes e) = absurd (omega (arith, x.first b e, y.reached))
    go (no h) (no e) = omega arith

first_is : (g : ℕ → ℕ) (w i n : ℕ) → ((a : ℕ) → a < i → g a < w) → (b : ℕ) → i ≤ b → b < i + n → w ≤ g b
    → (first_reaching g w i n < i + n) × (w ≤ g (first_reaching g w i n)) × ((a : ℕ) → a < first_reaching g w i n → g a < w)
unfolding first_reaching
first_is g w i zero before b l u h = absurd (omega arith)
first_is g w i (suc n) before b l u h = go (leb w (g i)) refl (λ q v. first_is g w (suc i) n (later q) b v (omega arith) h)
  where
    later : g i < w → (a : ℕ) → a < suc i → g a < w
    later q a v = by_cases (dec_lt a i) (λ k. before a k) (λ k. let e : a ≡ i = omega arith in rw e q)

    go : (t : Bool) → leb w (g i) ≡ t
        → (g i < w → suc i ≤ b → (first_reaching g w (suc i) n < suc i + n) × (w ≤ g (first_reaching g w (suc i) n))
        × ((a : ℕ) → a < first_reaching g w (suc i) n → g a < w))
        → (cond t i (first_reaching g w (suc i) n) < i + suc n) × (w ≤ g (cond t i (first_reaching g w (suc i) n)))
        × ((a : ℕ) → a < cond t i (first_reaching g w (suc i) n) → g a < w)
    go true e ih = (omega arith, leb-true w (g i) e, before)
    go false e ih =
        let q = leb-false w (g i) e in
        let past : suc i ≤ b = by_cases (dec_lt i b) (λ k. k) (λ k. let d : b ≡ i = omega arith in absurd (omega (arith, rw d at h))) in
        let r = ih q past in
        (omega (arith, r.0), r.1, r.2)

-- the earliest is that number
pub earliest_is : (g : ℕ → ℕ) (n : ℕ) → 0 < n → Earliest g n (earliest_of g n)
unfolding earliest_of
earliest_is g n some =
    let (b, u, e) = greatest_of_reached g n some in
    let r = first_is g (greatest_of g n) 0 n (λ a h. absurd (omega arith)) b (omega arith) (omega arith) (omega arith) in
    let below : first_reaching g (greatest_of g n) 0 n < n = omega (arith, r.0) in
    record { below = below; reached = omega (arith, r.1, greatest_of_above g n (first_reaching g (greatest_of g n) 0 n) below); first = r.2 }

-- it is not past them
pub earliest_le : (g : ℕ → ℕ) (n : ℕ) → earliest_of g n ≤ n
unfolding earliest_of first_reaching
earliest_le g zero = omega arith
earliest_le g (suc n) = omega (arith, (earliest_is g (suc n) (omega arith)).below)

-- functions that are alike below n
pub earliest_same : (g h : ℕ → ℕ) (n b : ℕ) → ((a : ℕ) → a < n → g a ≡ h a) → Earliest g n b → Earliest h n b
earliest_same g h n b e r =
    let q = greatest_of_same g h n e in
    record {
      below = r.below;
      reached = omega (arith, q, e b r.below, r.reached);
      first = λ a u. omega (arith, q, e a (omega (arith, r.below)), r.first a u);
    }

-- ---- over a run of one value v, as a walk finds them: at is the earliest below b, and w the greatest there

-- the greatest over the run too
greatest_run : (g : ℕ → ℕ) (b n v w : ℕ) → b < n → w ≡ greatest_of g b → ((k : ℕ) → b ≤ k → k < n → g k ≡ v) → max w v ≡ greatest_of g n
unfolding greatest_of
greatest_run g b zero v w u e h = absurd (omega arith)
greatest_run g b (suc n) v w u e h =
    by_cases (dec_lt b n)
    (λ l. omega (arith, greatest_run g b n v w l e (λ k i j. h k i (omega arith)), h n (omega arith) (omega arith)))
    (λ l. let d : b ≡ n = omega arith in omega (arith, rw d at e, h n (omega arith) (omega arith)))

greatest_of_none : (g : ℕ → ℕ) (n : ℕ) → n ≡ 0 → greatest_of g n ≡ 0
unfolding greatest_of
greatest_of_none g zero e = refl
greatest_of_none g (suc n) e = absurd (omega arith)

-- where the greatest of g below n is, as a walk from the start has it; 0 and 0 before the first
pub record Peak (g : ℕ → ℕ) (n at w : ℕ) : Type 0 where
  pub value : w ≡ greatest_of g n
  pub none : n ≡ 0 → at ≡ 0
  pub some : 0 < n → Earliest g n at

pub peak_start : (g : ℕ → ℕ) → Peak g 0 0 0
unfolding greatest_of
peak_start g = record { value = refl; none = λ e. refl; some = λ h. absurd (omega arith) }

-- it is at the earliest place
pub peak_earliest : (g : ℕ → ℕ) (n at w : ℕ) → Peak g n at w → at ≡ earliest_of g n
unfolding earliest_of first_reaching
peak_earliest g zero at w p = p.none refl
peak_earliest g (suc n) at w p = earliest_unique g (suc n) at _ (p.some (omega arith)) (earliest_is g (suc n) (omega arith))

pub peak_same : (g h : ℕ → ℕ) (n at w : ℕ) → ((a : ℕ) → a < n → g a ≡ h a) → Peak g n at w → Peak h n at w
peak_same g h n at w e p = record { value = omega (arith, p.value, greatest_of_same g h n e); none = p.none; some = λ s. earliest_same g h n at e (p.some s) }

module _ (g : ℕ → ℕ) (b n v at w : ℕ) (u : b < n) (same : (k : ℕ) → b ≤ k → k < n → g k ≡ v) (p : Peak g b at w) where
  -- a run above all before it
  pub peak_higher : w < v → Peak g n b v
  peak_higher h =
      let q = greatest_run g b n v w u p.value same in
      record {
        value = omega arith;
        none = λ e. absurd (omega arith);
        some = λ s. record { below = u; reached = omega (arith, same b (omega arith) u); first = λ a l. omega (arith, greatest_of_above g b a l, p.value) };
      }

  -- one that is not
  pub peak_lower : v ≤ w → Peak g n at w
  peak_lower h =
      let q = greatest_run g b n v w u p.value same in
      record { value = omega arith; none = λ e. absurd (omega arith); some = λ s. by_cases (dec_lt 0 b) (later q) (first q) }
    where
      later : max w v ≡ greatest_of g n → 0 < b → Earliest g n at
      later q s = let e = p.some s in
          record { below = omega (arith, e.below); reached = omega (arith, e.reached, p.value); first = λ a l. omega (arith, e.first a l, p.value) }

      first : max w v ≡ greatest_of g n → (0 < b → ⊥) → Earliest g n at
      first q z =
          let d : at ≡ 0 = p.none (omega arith) in
          let none = greatest_of_none g b (omega arith) in
          rw d (record { below = omega arith; reached = omega (arith, p.value, greatest_of_above g n 0 (omega arith)); first = λ a l. absurd (omega arith) })

-- ---- the greatest number that passes a test

-- the greatest number from 1 to n that passes the test; 0 where none does
unfoldable pub greatest : (ℕ → Bool) → ℕ → ℕ
greatest f zero = 0
greatest f (suc n) = elim (f (suc n)) [ true ↦ suc n | false ↦ greatest f n ]

pub greatest_le : (f : ℕ → Bool) (n : ℕ) → greatest f n ≤ n
unfolding greatest
greatest_le f zero = omega arith
greatest_le f (suc n) = go (f (suc n)) (greatest_le f n)
  where
    go : (t : Bool) → greatest f n ≤ n → elim t as (λ _. ℕ) [ true ↦ suc n | false ↦ greatest f n ] ≤ suc n
    go true h = omega arith
    go false h = omega arith

-- nothing above it, up to the bound, passes
pub greatest_above : (f : ℕ → Bool) (n k : ℕ) → greatest f n < k → k ≤ n → f k ≡ false
unfolding greatest
greatest_above f zero k l h = absurd (omega arith)
greatest_above f (suc n) k l h = go (f (suc n)) refl (ℕ_discrete k (suc n)) (λ l' h'. greatest_above f n k l' h') l
  where
    go : (t : Bool) → f (suc n) ≡ t → Dec (k ≡ suc n) → (greatest f n < k → k ≤ n → f k ≡ false)
        → elim t as (λ _. ℕ) [ true ↦ suc n | false ↦ greatest f n ] < k → f k ≡ false
    go true e d ih l' = absurd (omega arith)
    go false e (yes q) ih l' = rw q e
    go false e (no q) ih l' = ih l' (omega arith)

-- it passes, where it is not 0
pub greatest_fits : (f : ℕ → Bool) (n : ℕ) → 0 < greatest f n → f (greatest f n) ≡ true
unfolding greatest
greatest_fits f zero l = absurd (omega arith)
greatest_fits f (suc n) l = go (f (suc n)) refl (greatest_fits f n) l
  where
    go : (t : Bool) → f (suc n) ≡ t → (0 < greatest f n → f (greatest f n) ≡ true)
        → (let g : ℕ = elim t [ true ↦ suc n | false ↦ greatest f n ] in 0 < g → f g ≡ true)
    go true e ih l' = e
    go false e ih l' = ih l'

pub greatest_hit : (f : ℕ → Bool) (n : ℕ) → 0 < n → f n ≡ true → greatest f n ≡ n
unfolding greatest
greatest_hit f zero h e = absurd (omega arith)
greatest_hit f (suc n) h e = rw (e, greatest)

pub greatest_down : (f : ℕ → Bool) (n : ℕ) → 0 < n → f n ≡ false → greatest f n ≡ greatest f (n - 1)
unfolding greatest
greatest_down f zero h e = absurd (omega arith)
greatest_down f (suc n) h e = let q : suc n - 1 ≡ n = omega arith in rw (q, e, greatest)
