-- A circle of slow, fast and other blocks in which beside each slow one stand fast ones: where some are slow, it has fewer slow blocks than
-- fast ones, or as many and no others.
-- Assumes nothing.
use Rattle.std.specs.Prelude.{ℕ, zero, suc, ◌+◌, ◌-◌, ◌≤◌, ◌<◌, ◌≡◌, ◌⊎◌}
use Rattle.std.proofs.Common.{inl, inr, arith}
use Rattle.laws.specs.Bools.{bit}
use Rattle.laws.specs.Count.{count}
use Rattle.placement.specs.Tally.{Class, slow, fast, other, is_slow, is_fast, Beside}
use Rattle.placement.specs.Row.{Row, first, step}

-- fewer slow than fast, or as many and no others
abbrev pub Even : ℕ → ℕ → ℕ → Type 0
Even s f m = (s < f) ⊎ ((s ≡ f) × (m ≡ s + f))

-- what is known of a row of m blocks, s of them slow and f of them fast, by its first and its last block
abbrev Arc : Class → Class → ℕ → ℕ → ℕ → Type 0
Arc slow y s f m = Row y s f m
Arc fast slow s f m = Even s f m
Arc fast fast s f m = (s + 1 < f) ⊎ ((s + 1 ≡ f) × (m ≡ s + f))
Arc fast other s f m = s < f
Arc other slow s f m = s ≤ f
Arc other fast s f m = s < f
Arc other other s f m = (s < f) ⊎ (s ≡ 0)

-- one block more
arc_step : (z x y : Class) (s f m : ℕ) → Arc z x s f m → Beside x y → Arc z y (bit (is_slow y) + s) (bit (is_fast y) + f) (suc m)
arc_step slow x y s f m r o = step x y s f m r o
arc_step fast slow slow s f m r o = absurd o
arc_step fast slow fast s f m (inl r) o = inl (omega arith)
arc_step fast slow fast s f m (inr r) o = inr (omega arith)
arc_step fast slow other s f m r o = absurd o
arc_step fast fast slow s f m (inl r) o = inl (omega arith)
arc_step fast fast slow s f m (inr r) o = inr (omega arith)
arc_step fast fast fast s f m (inl r) o = inl (omega arith)
arc_step fast fast fast s f m (inr r) o = inl (omega arith)
arc_step fast fast other s f m (inl r) o = omega arith
arc_step fast fast other s f m (inr r) o = omega arith
arc_step fast other slow s f m r o = absurd o
arc_step fast other fast s f m r o = inl (omega arith)
arc_step fast other other s f m r o = omega arith
arc_step other slow slow s f m r o = absurd o
arc_step other slow fast s f m r o = omega arith
arc_step other slow other s f m r o = absurd o
arc_step other fast slow s f m r o = omega arith
arc_step other fast fast s f m r o = omega arith
arc_step other fast other s f m r o = inl (omega arith)
arc_step other other slow s f m r o = absurd o
arc_step other other fast s f m (inl r) o = omega arith
arc_step other other fast s f m (inr r) o = omega arith
arc_step other other other s f m (inl r) o = inl (omega arith)
arc_step other other other s f m (inr r) o = inr (omega arith)

arc_first : (x : Class) → Arc x x (bit (is_slow x) + 0) (bit (is_fast x) + 0) 1
arc_first slow = first slow
arc_first fast = inr (omega arith)
arc_first other = inr (omega arith)

arc : (k : ℕ → Class) (n : ℕ) → ((b : ℕ) → b < n → Beside (k b) (k (suc b)))
    → Arc (k 0) (k n) (count (λ b. is_slow (k b)) (suc n)) (count (λ b. is_fast (k b)) (suc n)) (suc n)
unfolding count
arc k zero o = arc_first (k zero)
arc k (suc n) o = arc_step (k 0) (k n) (k (suc n)) _ _ (suc n) (arc k n (λ b h. o b (omega arith))) (o n (omega arith))

-- the last stands beside the first
arc_close : (x y : Class) (s f m : ℕ) → Arc x y s f m → Beside y x → 0 < s → Even s f m
arc_close slow slow s f m r o h = absurd o
arc_close slow fast s f m r o h = r
arc_close slow other s f m r o h = absurd o
arc_close fast slow s f m r o h = r
arc_close fast fast s f m (inl r) o h = inl (omega arith)
arc_close fast fast s f m (inr r) o h = inl (omega arith)
arc_close fast other s f m r o h = inl r
arc_close other slow s f m r o h = absurd o
arc_close other fast s f m r o h = inl r
arc_close other other s f m (inl r) o h = inl r
arc_close other other s f m (inr r) o h = absurd (omega arith)

pub circle_even : (k : ℕ → Class) (m : ℕ) → 0 < m → ((b : ℕ) → suc b < m → Beside (k b) (k (suc b))) → Beside (k (m - 1)) (k 0)
    → 0 < count (λ b. is_slow (k b)) m
    → Even (count (λ b. is_slow (k b)) m) (count (λ b. is_fast (k b)) m) m
circle_even k zero p o e h = absurd (omega arith)
circle_even k (suc n) p o e h =
    let q : suc n - 1 ≡ n = omega arith in
    arc_close (k 0) (k n) _ _ (suc n) (arc k n (λ b u. o b (omega arith))) (rw q at e) h
