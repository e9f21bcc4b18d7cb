-- A row of slow, fast and other blocks in which beside each slow one stand fast ones: it has no more slow
-- blocks than fast ones, or one more and no others.
-- Assumes nothing.
use Rattle.std.specs.Prelude.{ℕ, zero, suc, ◌+◌, ◌≤◌, ◌<◌, ◌≡◌, ◌⊎◌}
use Rattle.std.proofs.Common.{inl, inr, arith}
use Rattle.laws.specs.Bools.{bit}
use Rattle.laws.specs.Count.{count}
use Rattle.placement.specs.Tally.{Class, slow, fast, other, is_slow, is_fast, Beside}

-- what is known of a row of m blocks, s of them slow and f of them fast
abbrev pub Balanced : ℕ → ℕ → ℕ → Type 0
Balanced s f m = (s ≤ f) ⊎ ((s ≡ f + 1) × (m ≡ s + f))

-- the same by its last block
abbrev pub Row : Class → ℕ → ℕ → ℕ → Type 0
Row slow s f m = Balanced s f m
Row fast s f m = (s < f) ⊎ ((s ≡ f) × (m ≡ s + f))
Row other s f m = s ≤ f

pub first : (x : Class) → Row x (bit (is_slow x) + 0) (bit (is_fast x) + 0) 1
first slow = inr (omega arith)
first fast = inl (omega arith)
first other = omega arith

-- one block more
pub step : (x y : Class) (s f m : ℕ) → Row x s f m → Beside x y → Row y (bit (is_slow y) + s) (bit (is_fast y) + f) (suc m)
step slow slow s f m r o = absurd o
step slow fast s f m (inl r) o = inl (omega arith)
step slow fast s f m (inr r) o = inr (omega arith)
step slow other s f m r o = absurd o
step fast slow s f m (inl r) o = inl (omega arith)
step fast slow s f m (inr r) o = inr (omega arith)
step fast fast s f m (inl r) o = inl (omega arith)
step fast fast s f m (inr r) o = inl (omega arith)
step fast other s f m (inl r) o = omega arith
step fast other s f m (inr r) o = omega arith
step other slow s f m r o = absurd o
step other fast s f m r o = inl (omega arith)
step other other s f m r o = omega arith

last : (x : Class) (s f m : ℕ) → Row x s f m → Balanced s f m
last slow s f m r = r
last fast s f m (inl r) = inl (omega arith)
last fast s f m (inr r) = inl (omega arith)
last other s f m r = inl r

row : (k : ℕ → Class) (n : ℕ) → ((b : ℕ) → b < n → Beside (k b) (k (suc b)))
    → Row (k n) (count (λ b. is_slow (k b)) (suc n)) (count (λ b. is_fast (k b)) (suc n)) (suc n)
unfolding count
row k zero o = first (k zero)
row k (suc n) o = step (k n) (k (suc n)) _ _ (suc n) (row k n (λ b h. o b (omega arith))) (o n (omega arith))

pub row_balanced : (k : ℕ → Class) (m : ℕ) → 0 < m → ((b : ℕ) → suc b < m → Beside (k b) (k (suc b)))
    → Balanced (count (λ b. is_slow (k b)) m) (count (λ b. is_fast (k b)) m) m
row_balanced k zero p o = absurd (omega arith)
row_balanced k (suc n) p o = last (k n) _ _ (suc n) (row k n (λ b h. o b (omega arith)))
