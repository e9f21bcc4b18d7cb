-- The positions of a loop, run by run, are those of its laying.
-- Assumes nothing.
use Prim.Native.Nat.{ℕ, zero, suc, ◌+◌, ◌-◌, ◌*◌, ◌/◌, ◌%◌, ◌≤◌, ◌<◌}
use mathlib.Core.Path.{◌≡◌, refl, sym}
use mathlib.Core.Bool.{Bool, true, false, cond}
use mathlib.Core.List.{List}
use native.Mathlib.Omega.{arith}
use lib.Dec.{eqb}
use borrow.Author.Tests.{eqb-true, eqb-false}
use Rattle.placement.specs.Circle.{rank, ring}
use Rattle.placement.specs.CircleBest.{rank_even, rank_odd, late_even, late_odd, ring_first}
use Rattle.words.specs.Words.{with_word}
use Rattle.block_lists.specs.Runs.{written}
use Rattle.block_lists.specs.Turns.{turn_of}
use Rattle.block_lists.proofs.Runs.{Writes, writes_start, writes_one, writes_run}

module _ (P N k : ℕ) (some : 1 ≤ k) (within : k ≤ N) (room : N ≤ P) where
  rises : rank N k ≡ k - 1 → P - N + k - 1 ≡ ring P N k
  unfolding ring
  rises e = omega arith

  falls : rank N k ≡ N - k → P - k ≡ ring P N k
  unfolding ring
  falls e = omega arith

  -- up to the half, and in a loop of an odd number of blocks throughout
  odd_falls : (N < 2 * k → N % 2 ≡ 1) → turn_of P N 1 k ≡ ring P N k
  odd_falls h = go (eqb ((k + 1) % 2) 0) refl
    where
      go : (x : Bool) → eqb ((k + 1) % 2) 0 ≡ x → cond x (P - k) (P - N + k - 1) ≡ ring P N k
      go true d = falls (rank_odd N k within (omega (arith, eqb-true ((k + 1) % 2) 0 d)) h)
      go false d = rises (rank_even N k within (omega (arith, eqb-false ((k + 1) % 2) 0 d)) h)

  -- past half of an even number of blocks
  even_falls : N < 2 * k → N % 2 ≡ 0 → turn_of P N 0 k ≡ ring P N k
  even_falls h n = go (eqb ((k + 0) % 2) 0) refl
    where
      go : (x : Bool) → eqb ((k + 0) % 2) 0 ≡ x → cond x (P - k) (P - N + k - 1) ≡ ring P N k
      go true d = falls (late_even N k within (omega (arith, eqb-true ((k + 0) % 2) 0 d)) h n)
      go false d = rises (late_odd N k within (omega (arith, eqb-false ((k + 0) % 2) 0 d)) h n)

  turn_early : 2 * k ≤ N → turn_of P N 1 k ≡ ring P N k
  turn_early u = odd_falls (λ h. absurd (omega arith))

  turn_late : N < 2 * k → turn_of P N (N % 2) k ≡ ring P N k
  turn_late h = go (N % 2) refl
    where
      go : (o : ℕ) → N % 2 ≡ o → turn_of P N o k ≡ ring P N k
      go zero e = even_falls h e
      go (suc zero) e = odd_falls (λ _. e)
      go (suc (suc o)) e = absurd (omega arith)

-- the three parts of a loop: block 0, the blocks up to the half, those past it
module _ {P N : ℕ} (some : 0 < N) (room : N ≤ P) where
  pub early_turns : (k : ℕ) → 1 ≤ k → k < N / 2 + 1 → turn_of P N 1 k ≡ ring P N k
  early_turns k i u = turn_early P N k i (omega arith) room (omega arith)

  pub late_turns : (k : ℕ) → N / 2 + 1 ≤ k → k < N → turn_of P N (N % 2) k ≡ ring P N k
  late_turns k i u = turn_late P N k (omega arith) (omega arith) room (omega arith)

  module _ {s : List ℕ} where
    pub first_written : {r : List ℕ} → r ≡ with_word s 0 (P - N) → Writes s (ring P N) 0 N r 1
    first_written e = writes_one (writes_start s (ring P N) 0 N (omega arith)) some e (sym (ring_first P N))

    pub early_written : {t r : List ℕ} → Writes s (ring P N) 0 N t 1 → r ≡ written t (turn_of P N 1) 1 (N / 2 + 1) → Writes s (ring P N) 0 N r (N / 2 + 1)
    early_written w e = writes_run w (omega arith) (omega arith) e early_turns

    pub late_written : {t r : List ℕ} → Writes s (ring P N) 0 N t (N / 2 + 1) → r ≡ written t (turn_of P N (N % 2)) (N / 2 + 1) N → Writes s (ring P N) 0 N r N
    late_written w e = writes_run w (omega arith) (omega arith) e late_turns
