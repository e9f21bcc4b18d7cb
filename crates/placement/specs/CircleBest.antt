-- The laying of a loop is a laying, and none has a smaller worst time over the circle.
-- Assumes nothing.
use Rattle.std.specs.Prelude.{ℕ, zero, suc, ◌+◌, ◌*◌, ◌-◌, ◌%◌, ◌≤◌, ◌<◌, ◌≡◌, refl, ◌≢◌, Bool, true, false, cond, leb, eqb}
use Rattle.std.proofs.Common.{inl, inr, leb-true, leb-false, eqb-true, le-leb, eq-eqb, ne_eqb}
use Rattle.std.proofs.Math.Logic.{by_cases}
use native.Mathlib.Omega.{arith}
use Rattle.std.proofs.Math.Decide.{dec_le, dec_lt}
use Rattle.std.proofs.lemmas.Bool.{eqb-false}
use Rattle.laws.specs.Count.{count}
use Rattle.laws.specs.Greatest.{greatest_of_above, greatest_of_least}
use Rattle.placement.specs.Placement.{Laying, Falling}
use Rattle.placement.specs.Tally.{Beside, is_slow, is_fast, class_of, fast_few, slow_many, beside}
use Rattle.placement.specs.Circle.{round, falls, rank, ring, worst_round}
use Rattle.placement.specs.CircleRow.{Even, circle_even}

-- ---- ranks

-- what a rank is, with the reason
data Ranked (N b : ℕ) : ℕ → Type 0 where
  early_falls : 2 * b ≤ N → b % 2 ≡ 1 → Ranked N b (N - b)
  early_rises : 2 * b ≤ N → b % 2 ≢ 1 → Ranked N b (b - 1)
  late_falls : N < 2 * b → (N - b) % 2 ≡ 0 → Ranked N b (N - b)
  late_rises : N < 2 * b → (N - b) % 2 ≢ 0 → Ranked N b (b - 1)

ranked : (N b : ℕ) → Ranked N b (rank N b)
unfolding rank falls
ranked N b = go (leb (2 * b) N) refl (eqb (b % 2) 1) refl (eqb ((N - b) % 2) 0) refl
  where
    go : (x : Bool) → leb (2 * b) N ≡ x → (y : Bool) → eqb (b % 2) 1 ≡ y → (z : Bool) → eqb ((N - b) % 2) 0 ≡ z
        → Ranked N b (cond (cond x y z) (N - b) (b - 1))
    go true e true f z g = early_falls (leb-true (2 * b) N e) (eqb-true (b % 2) 1 f)
    go true e false f z g = early_rises (leb-true (2 * b) N e) (eqb-false (b % 2) 1 f)
    go false e y f true g = late_falls (leb-false (2 * b) N e) (eqb-true ((N - b) % 2) 0 g)
    go false e y f false g = late_rises (leb-false (2 * b) N e) (eqb-false ((N - b) % 2) 0 g)

rank_low : (N b r : ℕ) → b < N → Ranked N b r → r < N
rank_low N b r h (early_falls e f) = omega arith
rank_low N b r h (early_rises e f) = omega arith
rank_low N b r h (late_falls e f) = omega arith
rank_low N b r h (late_rises e f) = omega arith

rank_apart : (N a b r s : ℕ) → a < N → b < N → Ranked N a r → Ranked N b s → r ≡ s → a ≡ b
rank_apart N a b r s u v (early_falls d e) (early_falls x y) q = omega arith
rank_apart N a b r s u v (early_falls d e) (early_rises x y) q = omega arith
rank_apart N a b r s u v (early_falls d e) (late_falls x y) q = omega arith
rank_apart N a b r s u v (early_falls d e) (late_rises x y) q = omega arith
rank_apart N a b r s u v (early_rises d e) (early_falls x y) q = omega arith
rank_apart N a b r s u v (early_rises d e) (early_rises x y) q = omega arith
rank_apart N a b r s u v (early_rises d e) (late_falls x y) q = omega arith
rank_apart N a b r s u v (early_rises d e) (late_rises x y) q = omega arith
rank_apart N a b r s u v (late_falls d e) (early_falls x y) q = omega arith
rank_apart N a b r s u v (late_falls d e) (early_rises x y) q = omega arith
rank_apart N a b r s u v (late_falls d e) (late_falls x y) q = omega arith
rank_apart N a b r s u v (late_falls d e) (late_rises x y) q = omega arith
rank_apart N a b r s u v (late_rises d e) (early_falls x y) q = omega arith
rank_apart N a b r s u v (late_rises d e) (early_rises x y) q = omega arith
rank_apart N a b r s u v (late_rises d e) (late_falls x y) q = omega arith
rank_apart N a b r s u v (late_rises d e) (late_rises x y) q = omega arith

-- ranks of neighbours: together N − 2 or more
rank_next : (N b r s : ℕ) → suc b < N → Ranked N b r → Ranked N (suc b) s → N ≤ r + s + 2
rank_next N b r s u (early_falls d e) (early_falls x y) = omega arith
rank_next N b r s u (early_falls d e) (early_rises x y) = omega arith
rank_next N b r s u (early_falls d e) (late_falls x y) = omega arith
rank_next N b r s u (early_falls d e) (late_rises x y) = omega arith
rank_next N b r s u (early_rises d e) (early_falls x y) = omega arith
rank_next N b r s u (early_rises d e) (early_rises x y) = omega arith
rank_next N b r s u (early_rises d e) (late_falls x y) = omega arith
rank_next N b r s u (early_rises d e) (late_rises x y) = omega arith
rank_next N b r s u (late_falls d e) (early_falls x y) = omega arith
rank_next N b r s u (late_falls d e) (early_rises x y) = omega arith
rank_next N b r s u (late_falls d e) (late_falls x y) = omega arith
rank_next N b r s u (late_falls d e) (late_rises x y) = omega arith
rank_next N b r s u (late_rises d e) (early_falls x y) = omega arith
rank_next N b r s u (late_rises d e) (early_rises x y) = omega arith
rank_next N b r s u (late_rises d e) (late_falls x y) = omega arith
rank_next N b r s u (late_rises d e) (late_rises x y) = omega arith

rank_last : (N r : ℕ) → 1 < N → Ranked N (N - 1) r → N ≤ r + 2
rank_last N r u (early_falls d e) = omega arith
rank_last N r u (early_rises d e) = omega arith
rank_last N r u (late_falls d e) = omega arith
rank_last N r u (late_rises d e) = omega arith

-- up to half of the film, and in one of an odd number of blocks throughout, ranks rise over the even blocks and fall over the odd ones
pub rank_even : (N b : ℕ) → b ≤ N → b % 2 ≡ 0 → (N < 2 * b → N % 2 ≡ 1) → rank N b ≡ b - 1
rank_even N b u e h = go (rank N b) (ranked N b)
  where
    go : (r : ℕ) → Ranked N b r → r ≡ b - 1
    go r (early_falls d f) = absurd (omega arith)
    go r (early_rises d f) = refl
    go r (late_falls d f) = absurd (omega (arith, h d))
    go r (late_rises d f) = refl

pub rank_odd : (N b : ℕ) → b ≤ N → b % 2 ≡ 1 → (N < 2 * b → N % 2 ≡ 1) → rank N b ≡ N - b
rank_odd N b u e h = go (rank N b) (ranked N b)
  where
    go : (r : ℕ) → Ranked N b r → r ≡ N - b
    go r (early_falls d f) = refl
    go r (early_rises d f) = absurd (omega arith)
    go r (late_falls d f) = refl
    go r (late_rises d f) = absurd (omega (arith, h d))

-- past half of an even number of blocks it is the other way round
pub late_even : (N b : ℕ) → b ≤ N → b % 2 ≡ 0 → N < 2 * b → N % 2 ≡ 0 → rank N b ≡ N - b
late_even N b u e h n = go (rank N b) (ranked N b)
  where
    go : (r : ℕ) → Ranked N b r → r ≡ N - b
    go r (early_falls d f) = absurd (omega arith)
    go r (early_rises d f) = absurd (omega arith)
    go r (late_falls d f) = refl
    go r (late_rises d f) = absurd (omega arith)

pub late_odd : (N b : ℕ) → b ≤ N → b % 2 ≡ 1 → N < 2 * b → N % 2 ≡ 0 → rank N b ≡ b - 1
late_odd N b u e h n = go (rank N b) (ranked N b)
  where
    go : (r : ℕ) → Ranked N b r → r ≡ b - 1
    go r (early_falls d f) = absurd (omega arith)
    go r (early_rises d f) = absurd (omega arith)
    go r (late_falls d f) = absurd (omega arith)
    go r (late_rises d f) = refl

-- no rank is N or more, past the last block neither
pub rank_within : (N b : ℕ) → 0 < N → b ≤ N → rank N b < N
rank_within N b some u = go (rank N b) (ranked N b)
  where
    go : (r : ℕ) → Ranked N b r → r < N
    go r (early_falls d f) = omega arith
    go r (early_rises d f) = omega arith
    go r (late_falls d f) = omega arith
    go r (late_rises d f) = omega arith

-- past the last block comes the first one's position
pub ring_round : (P N : ℕ) → 0 < N → ring P N N ≡ P - N
unfolding ring
ring_round P N some = go (rank N N) (ranked N N)
  where
    go : (r : ℕ) → Ranked N N r → P - N + r ≡ P - N
    go r (early_falls d f) = absurd (omega arith)
    go r (early_rises d f) = absurd (omega arith)
    go r (late_falls d f) = omega arith
    go r (late_rises d f) = absurd (omega arith)

-- every block lies below P, and no two on one position
pub ring_laying : (P N : ℕ) → N ≤ P → Laying P N (ring P N)
unfolding ring
ring_laying P N np = record {
  into = λ b u. omega (arith, rank_low N b (rank N b) u (ranked N b));
  apart = λ a b u v e. rank_apart N a b (rank N a) (rank N b) u v (ranked N a) (ranked N b) (omega arith);
}

-- the film takes the N highest positions, and block 0 the lowest of them
pub ring_high : (P N b : ℕ) → P - N ≤ ring P N b
unfolding ring
ring_high P N b = omega arith

pub ring_first : (P N : ℕ) → ring P N 0 ≡ P - N
unfolding ring rank falls
ring_first P N = rw (le-leb (2 * 0) N (omega arith)) (omega arith)

-- ---- the next block on the circle

pub round_last : (N b : ℕ) → suc b ≡ N → round N b ≡ 0
unfolding round
round_last N b e = rw (eq-eqb (suc b) N e)

pub round_next : (N b : ℕ) → suc b < N → round N b ≡ suc b
unfolding round
round_next N b h = rw (ne_eqb (suc b) N (omega arith))

-- ---- every laying

module _ (P N : ℕ) (τ : ℕ → ℕ) (slower : Falling P τ) (l : ℕ → ℕ) (lay : Laying P N l) (W : ℕ) (under : (b : ℕ) → b < N → τ (l b) + τ (l (round N b)) ≤ W) where
  -- what bounds the successive pairs of any laying on the circle bounds τ s + τ f, where as many blocks must be slow as can be fast
  pair_bound : (s f : ℕ) → s < f → f < P → (P - 1 - s) + (P - 1 - f) ≤ N → 2 * (P - 1 - f) < N → P - 1 - s < N → τ s + τ f ≤ W
  pair_bound s f sf fp many few some = by_cases (dec_le (τ s + τ f) W) (λ h. h)
      (λ h. absurd (end (circle_even (λ b. class_of s f (l b)) N (omega arith)
      (λ b u. near h b (suc b) (omega arith) (round_next N b u)) (near h (N - 1) 0 (omega arith) (round_last N (N - 1) (omega arith)))
      (omega (arith, slow_many P N l lay s f)))))
    where
      near : (τ s + τ f ≤ W → ⊥) → (a b : ℕ) → a < N → round N a ≡ b → Beside (class_of s f (l a)) (class_of s f (l b))
      near h a b u q = beside P N l lay s f τ slower W sf fp (omega arith) a b (rw q at (under a u))

      end : Even (count (λ b. is_slow (class_of s f (l b))) N) (count (λ b. is_fast (class_of s f (l b))) N) N → ⊥
      end (inl r) = omega (arith, fast_few P N l lay s f, slow_many P N l lay s f)
      end (inr r) = omega (arith, fast_few P N l lay s f)

  -- so it bounds two positions of the film whose ranks come to N − 2 or more
  ranks_bound : N ≤ P → (u v : ℕ) → u < N → v < N → u ≢ v → N ≤ u + v + 2 → τ (P - N + u) + τ (P - N + v) ≤ W
  ranks_bound np u v a b n h = by_cases (dec_lt u v)
      (λ d. pair_bound (P - N + u) (P - N + v) (omega arith) (omega arith) (omega arith) (omega arith) (omega arith))
      (λ d. omega (arith, pair_bound (P - N + v) (P - N + u) (omega arith) (omega arith) (omega arith) (omega arith) (omega arith)))

  -- and every successive pair of the loop's laying, the last and the first block among them
  pub ring_within : N ≤ P → 1 < N → (b : ℕ) → b < N → τ (ring P N b) + τ (ring P N (round N b)) ≤ W
  unfolding ring
  ring_within np two b u = by_cases (dec_lt (suc b) N)
      (λ h. rw (round_next N b h) (pair b (suc b) u h (omega arith) (rank_next N b _ _ h (ranked N b) (ranked N (suc b)))))
      (λ h. let e : b ≡ N - 1 = omega arith in
      rw (round_last N b (omega arith)) (pair b 0 u (omega arith) (omega arith) (omega (arith, rank_last N (rank N b) two (rw e (ranked N (N - 1)))))))
    where
      pair : (a b : ℕ) → a < N → b < N → a ≢ b → N ≤ rank N a + rank N b + 2 → τ (P - N + rank N a) + τ (P - N + rank N b) ≤ W
      pair a b u v n h = ranks_bound np (rank N a) (rank N b) (rank_low N a _ u (ranked N a)) (rank_low N b _ v (ranked N b))
          (λ e. n (rank_apart N a b _ _ u v (ranked N a) (ranked N b) e)) h

-- NO LAYING HAS A SMALLER WORST TIME OVER THE CIRCLE
pub circle_best : (P N : ℕ) → N ≤ P → 1 < N → (τ : ℕ → ℕ) → Falling P τ → (l : ℕ → ℕ) → Laying P N l → worst_round τ (ring P N) N ≤ worst_round τ l N
unfolding worst_round
circle_best P N np two τ slower l lay =
    greatest_of_least (λ b. τ (ring P N b) + τ (ring P N (round N b))) N (worst_round τ l N)
    (ring_within P N τ slower l lay (worst_round τ l N) (λ a v. greatest_of_above (λ b. τ (l b) + τ (l (round N b))) N a v) np two)
