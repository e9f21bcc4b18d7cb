-- Windows of half blocks as a walk over all halves finds them: of the windows of 2 k halves none that starts at a second half takes more than
-- the one before it, so the worst of them and its earliest place are those of k blocks.
-- Assumes nothing.
use Prim.Native.Nat.{ℕ, zero, suc, ◌+◌, ◌*◌, ◌-◌, ◌≤◌, ◌<◌}
use Rattle.std.specs.Prelude.{◌≡◌}
use Rattle.std.proofs.Math.Path.{refl, ap}
use native.Mathlib.Omega.{arith}
use Rattle.placement.specs.Placement.{zigzag, zigzag_even, Falling}
use Rattle.placement.specs.Showing.{one, pairs}
use Rattle.pacing.specs.Film.{span}
use Rattle.pacing.specs.Window.{window_time}

module _ (τ l : ℕ → ℕ) (N : ℕ) where
  -- the time of j halves in a row, a the first
  abbrev halves : ℕ → ℕ → ℕ
  halves j a = window_time one τ l (2 * N) j a

  -- one half more at the end
  half_more : (j a m : ℕ) → m ≡ a + j → halves (suc j) a ≡ halves j a + τ (l m)
  unfolding span
  half_more zero a m e = let q : m ≡ a = omega arith in rw q (omega arith)
  half_more (suc j) a m e = omega (arith, half_more j (suc a) m (omega arith))

  -- k blocks are twice as many halves
  pub both_halves : (k b : ℕ) → halves (2 * k) (2 * b) ≡ window_time pairs τ l N k b
  unfolding span
  both_halves zero b = refl
  both_halves (suc k) b = go (2 * suc k) (omega arith) (both_halves k (suc b))
    where
      go : (n : ℕ) → n ≡ suc (suc (2 * k)) → halves (2 * k) (2 * suc b) ≡ window_time pairs τ l N k (suc b) → halves n (2 * b) ≡ window_time pairs τ l N (suc k) b
      go n e ih = let f : suc (suc (2 * b)) ≡ 2 * suc b = omega arith in rw (e, f) (omega (arith, ih))

module _ (P N : ℕ) (np : 2 * N ≤ P) (τ : ℕ → ℕ) (falls : Falling P τ) (k : ℕ) (some : 0 < k) (within : k ≤ N) where
  -- 2 k halves, a the first
  abbrev pub window : ℕ → ℕ
  window = window_time one τ (zigzag P (2 * N)) (2 * N) (2 * k)

  -- a window that starts at the second half of a block has no more: it loses a first half, and a quicker one comes in
  pub second_half : (b : ℕ) → suc (2 * b) < 2 * (suc N - k) - 1 → window (suc (2 * b)) ≤ window (2 * b)
  unfolding Falling span
  second_half b u = omega (
    arith,
    half_more τ (zigzag P (2 * N)) N (2 * k) (2 * b) (2 * (b + k)) (omega arith),
    ap τ (zigzag_even P (2 * N) b),
    ap τ (zigzag_even P (2 * N) (b + k)),
    falls (P - 2 * N + b) (P - 2 * N + (b + k)) (omega arith) (omega arith),
  )
