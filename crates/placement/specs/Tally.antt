-- Slow, fast and other positions: how many of each a laying must have, and which may stand side by side.
-- Assumes nothing.
use Rattle.std.specs.Prelude.{ℕ, suc, ◌+◌, ◌-◌, ◌≤◌, ◌<◌, ◌≡◌, refl, Bool, true, false, not, leb, ltb}
use Rattle.std.proofs.Common.{arith, leb-true, leb-false, ltb-true, ltb-false}
use Rattle.laws.specs.Bools.{clash}
use Rattle.laws.specs.Count.{count, count_not, pigeons}
use Rattle.placement.specs.Placement.{Laying, Falling}

pub data Class : Type 0 where
  slow fast other : Class

abbrev pub is_slow : Class → Bool
is_slow slow = true
is_slow fast = false
is_slow other = false

abbrev pub is_fast : Class → Bool
is_fast slow = false
is_fast fast = true
is_fast other = false

-- beside a slow one stands a fast one
abbrev pub Beside : Class → Class → Type 0
Beside slow slow = ⊥
Beside slow fast = Unit {0}
Beside slow other = ⊥
Beside fast y = Unit {0}
Beside other slow = ⊥
Beside other fast = Unit {0}
Beside other other = Unit {0}

-- the class of position p: slow up to s, fast past f
unfoldable pub class_of : ℕ → ℕ → ℕ → Class
class_of s f p = elim (leb p s) [ true ↦ slow | false ↦ elim (ltb f p) [ true ↦ fast | false ↦ other ] ]

-- a class with what it says of its position
data Known (s f p : ℕ) : Class → Type 0 where
  known_slow : p ≤ s → Known s f p slow
  known_fast : s < p → f < p → Known s f p fast
  known_other : s < p → p ≤ f → Known s f p other

known : (s f p : ℕ) → Known s f p (class_of s f p)
unfolding class_of
known s f p = go (leb p s) refl (ltb f p) refl
  where
    go : (t : Bool) → leb p s ≡ t → (u : Bool) → ltb f p ≡ u
        → Known s f p (elim t [ true ↦ slow | false ↦ elim u [ true ↦ fast | false ↦ other ] ])
    go true d u e = known_slow (leb-true p s d)
    go false d true e = known_fast (leb-false p s d) (ltb-true f p e)
    go false d false e = known_other (leb-false p s d) (ltb-false f p e)

-- two positions whose times are together at most W, which is below τ s + τ f
neighbours : (P : ℕ) (τ : ℕ → ℕ) → Falling P τ → (W s f p q : ℕ) → s < f → f < P → W < τ s + τ f → τ p + τ q ≤ W
    → (x y : Class) → Known s f p x → Known s f q y → Beside x y
unfolding Falling
neighbours P τ falls W s f p q sf fp w h slow slow (known_slow a) (known_slow b) = omega (arith, falls p s a (omega arith), falls q f (omega arith) fp)
neighbours P τ falls W s f p q sf fp w h slow fast a b = tt
neighbours P τ falls W s f p q sf fp w h slow other (known_slow a) (known_other b d) = omega (arith, falls p s a (omega arith), falls q f d fp)
neighbours P τ falls W s f p q sf fp w h fast y a b = tt
neighbours P τ falls W s f p q sf fp w h other slow (known_other b d) (known_slow a) = omega (arith, falls q s a (omega arith), falls p f d fp)
neighbours P τ falls W s f p q sf fp w h other fast a b = tt
neighbours P τ falls W s f p q sf fp w h other other a b = tt

module _ (P N : ℕ) (l : ℕ → ℕ) (lay : Laying P N l) (s f : ℕ) where
  -- no more fast blocks than fast positions
  pub fast_few : count (λ b. is_fast (class_of s f (l b))) N ≤ P - 1 - f
  fast_few = pigeons N l lay.apart (suc f) (P - 1 - f) (λ b. is_fast (class_of s f (l b)))
      (λ b u e. is (class_of s f (l b)) (known s f (l b)) e (lay.into b u))
    where
      is : {p : ℕ} (x : Class) → Known s f p x → is_fast x ≡ true → p < P → (suc f ≤ p) × (p < suc f + (P - 1 - f))
      is slow k e u = clash e refl
      is fast (known_fast a b) e u = omega arith
      is other k e u = clash e refl

  unslow_few : count (λ b. not (is_slow (class_of s f (l b)))) N ≤ P - 1 - s
  unslow_few = pigeons N l lay.apart (suc s) (P - 1 - s) (λ b. not (is_slow (class_of s f (l b))))
      (λ b u e. is (class_of s f (l b)) (known s f (l b)) e (lay.into b u))
    where
      is : {p : ℕ} (x : Class) → Known s f p x → not (is_slow x) ≡ true → p < P → (suc s ≤ p) × (p < suc s + (P - 1 - s))
      is slow k e u = clash e refl
      is fast (known_fast a b) e u = omega arith
      is other (known_other a b) e u = omega arith

  -- the blocks that find no place past s are slow
  pub slow_many : N ≤ count (λ b. is_slow (class_of s f (l b))) N + (P - 1 - s)
  slow_many = omega (arith, unslow_few, count_not (λ b. is_slow (class_of s f (l b))) N)

  -- blocks a and b whose times are together below τ s + τ f: beside a slow one stands a fast one
  pub beside : (τ : ℕ → ℕ) → Falling P τ → (W : ℕ) → s < f → f < P → W < τ s + τ f → (a b : ℕ) → τ (l a) + τ (l b) ≤ W
      → Beside (class_of s f (l a)) (class_of s f (l b))
  beside τ falls W sf fp w a b u =
      neighbours P τ falls W s f (l a) (l b) sf fp w u (class_of s f (l a)) (class_of s f (l b)) (known s f (l a)) (known s f (l b))
