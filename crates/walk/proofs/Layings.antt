-- How far a laying stays in the two zones that block b and the next one lie in.
-- Assumes nothing.
use Prim.Native.Nat.{ℕ, ◌+◌, ◌*◌, ◌-◌, ◌/◌, ◌%◌, ◌≤◌, ◌<◌, min}
use mathlib.Core.Path.{◌≡◌, ap, ◌∙◌}
use mathlib.Core.Logic.{by_cases}
use native.Mathlib.Omega.{arith}
use native.Mathlib.Decide.{ℕ_discrete}
use Rattle.placement.specs.Placement.{zigzag, zigzag_even, zigzag_odd}
use Rattle.placement.specs.Circle.{rank, ring}
use Rattle.placement.specs.CircleBest.{rank_within, rank_even, rank_odd, late_even, late_odd}
use Rattle.placement.specs.Showing.{Showing, one, loop, pairs, laying, walked}
use Rattle.zones.specs.declared.Zone.{Zone}
use Rattle.walk.specs.Walk.{Ends, first_past, RunEnd}

-- t is the least of three
record Least (m a z t : ℕ) : Type 0 where
  film : t ≤ m
  even : t ≤ a
  odd : t ≤ z
  most : (k : ℕ) → k ≤ m → k ≤ a → k ≤ z → k ≤ t

least : (m a z : ℕ) → Least m a z (min m (min a z))
least m a z = record { film = omega arith; even = omega arith; odd = omega arith; most = λ k x y u. omega arith }

even_number : (n : ℕ) → (n % 2 ≡ 1 → ⊥) → n % 2 ≡ 0
even_number n h = omega arith

past : (b n : ℕ) → n / 2 ≤ b → (b ≡ n / 2 → ⊥) → n < 2 * b
past b n h e = omega arith

-- ---- once: even blocks rise from D, odd ones fall from P

once_even : (P N D k : ℕ) → D + N ≡ P → k % 2 ≡ 0 → zigzag P N k ≡ D + k / 2
once_even P N D k d e = ap (zigzag P N) (omega arith) ∙ zigzag_even P N (k / 2) ∙ omega arith

once_odd : (P N k : ℕ) → N ≤ P → k ≤ N → k % 2 ≡ 1 → zigzag P N k + k / 2 + 1 ≡ P
once_odd P N k np u e =
    let x : zigzag P N k ≡ P - 1 - k / 2 = ap (zigzag P N) (omega arith) ∙ zigzag_odd P N (k / 2) in
    omega arith

-- every block and the one past the last lie below P
once_past : (P N k : ℕ) → 0 < N → N ≤ P → k ≤ N → zigzag P N k < P
once_past P N k some np u = by_cases (ℕ_discrete (k % 2) 0)
    (λ e. omega (arith, once_even P N (P - N) k (omega arith) e))
    (λ e. omega (arith, once_odd P N k np u (omega arith)))

pub laying_past : (x : Showing) (P N k : ℕ) → 0 < N → N ≤ P → k ≤ N → laying (walked x) P N k < P
unfolding ring
laying_past one P N k some np u = once_past P N k some np u
laying_past loop P N k some np u = omega (arith, rank_within N k some u)
laying_past pairs P N k some np u = once_past P N k some np u

module _ {P N b : ℕ} {low high : Zone} (e : Ends P N (zigzag P N) b low high) where
  -- the low zone reaches into the film's positions
  pub once_low : P - N ≤ low.end
  once_low = let x = once_even P N (P - N) (b + b % 2) (omega (arith, e.room)) (omega arith) in omega (arith, e.low_to)

  once_within : (D a z t : ℕ) → D + N ≡ P → a + 2 * D ≡ 2 * low.end → z + 2 * high.first ≡ 2 * P + 1 → Least N a z t → RunEnd N (zigzag P N) b low high t
  once_within D a z t d ea ez h =
      let x = once_even P N D (b + b % 2) d (omega arith) in
      let y = once_odd P N (b + 1 - b % 2) e.room (omega (arith, e.block)) (omega arith) in
      record {
        ahead = h.most (min (b + 2) N) (omega arith) (omega (arith, e.low_to)) (omega (arith, e.high_from));
        within = h.film;
        even = λ k l u p. let v = once_even P N D k d p in (omega (arith, e.low_from), omega (arith, h.even));
        odd = λ k l u p. let v = once_odd P N k e.room (omega (arith, h.film)) p in (omega (arith, h.odd), omega (arith, e.high_to));
      }

  pub once_run : RunEnd N (zigzag P N) b low high (min N (min (2 * (low.end - (P - N))) (2 * (P - high.first) + 1)))
  once_run =
      let x = once_even P N (P - N) (b + b % 2) (omega (arith, e.room)) (omega arith) in
      once_within (P - N) (2 * (low.end - (P - N))) (2 * (P - high.first) + 1) _ (omega (arith, e.room)) (omega (arith, e.low_to))
      (omega (arith, e.high_first))
      (least N (2 * (low.end - (P - N))) (2 * (P - high.first) + 1))

-- ---- a loop: up to m even blocks rise from D and odd ones fall from P

module _ {P N b : ℕ} {low high : Zone} (e : Ends P N (ring P N) b low high) where
  early_within : (D m a z t : ℕ) → D + N ≡ P → a + D ≡ low.end → z + high.first ≡ P
      → ((k : ℕ) → k ≤ b + 1 → N < 2 * k → N % 2 ≡ 1) → ((k : ℕ) → k < m → N < 2 * k → N % 2 ≡ 1) → min (b + 2) N ≤ m → m ≤ N
      → Least m (2 * (a / 2) + 2) (2 * ((z + 1) / 2) + 1) t → RunEnd N (ring P N) b low high t
  unfolding ring
  early_within D m a z t d ea ez first early ahead mn h =
      let q : P - N ≡ D = omega arith in
      let x = rank_even N (b + b % 2) (omega (arith, e.block)) (omega arith) (first (b + b % 2) (omega arith)) in
      let y = rank_odd N (b + 1 - b % 2) (omega (arith, e.block)) (omega arith) (first (b + 1 - b % 2) (omega arith)) in
      record {
        ahead = h.most (min (b + 2) N) ahead (omega (arith, e.low_to)) (omega (arith, e.high_from));
        within = omega (arith, h.film);
        even = λ k l u p. let v = rank_even N k (omega (arith, h.film)) p (early k (omega (arith, h.film))) in
            (omega (arith, e.low_from), omega (arith, h.even, e.low_to));
        odd = λ k l u p. let v = rank_odd N k (omega (arith, h.film)) p (early k (omega (arith, h.film))) in
            (omega (arith, h.odd), omega (arith, e.high_to, h.film));
      }

  falling : (a k t f r : ℕ) → N ≤ P → t ≤ 2 * (a / 2) + 2 → k < t → k % 2 ≡ 0 → a + f ≡ P → r ≡ N - k → k ≤ N → f ≤ P - N + r
  falling a k t f r np l u p d v w = let x : k ≤ a = omega arith in far x d v w np
    where
      far : k ≤ a → a + f ≡ P → r ≡ N - k → k ≤ N → N ≤ P → f ≤ P - N + r
      far x d v w np = omega arith

  below : (r s : ℕ) → P - N + s < low.end → r ≤ s → P - N + r < low.end
  below r s h l = omega arith

  -- past half of an even number of blocks it is the other way round
  late_within : (D a z t : ℕ) → D + N ≡ P → a + low.first ≡ P → z + D ≡ high.end → N % 2 ≡ 0 → N < 2 * b
      → Least N (2 * (a / 2) + 2) (2 * ((z + 1) / 2) + 1) t → RunEnd N (ring P N) b low high t
  unfolding ring
  late_within D a z t d ea ez two late h =
      let q : P - N ≡ D = omega arith in
      let x = late_even N (b + b % 2) (omega (arith, e.block)) (omega arith) (omega arith) two in
      let y = late_odd N (b + 1 - b % 2) (omega (arith, e.block)) (omega arith) (omega arith) two in
      record {
        ahead = h.most (min (b + 2) N) (omega arith) (omega (arith, e.low_from)) (omega (arith, e.high_to));
        within = h.film;
        even = λ k l u p. let v = late_even N k (omega (arith, h.film)) p (omega arith) two in (
          falling a k t low.first (rank N k) e.room h.even u p ea v (omega (arith, h.film)),
          below (rank N k) (rank N (b + b % 2)) e.low_to (omega (arith, h.film)),
        );
        odd = λ k l u p. let v = late_odd N k (omega (arith, h.film)) p (omega arith) two in
            (omega (arith, e.high_from), omega (arith, h.odd));
      }

  -- what the two blocks themselves say of the zones
  pub low_room : P - N ≤ low.end
  unfolding ring
  low_room = omega (arith, e.low_to)

  pub high_room : P - N ≤ high.end
  unfolding ring
  high_room = omega (arith, e.high_to)

  -- an odd number of blocks
  pub odd_run : N % 2 ≡ 1 → RunEnd N (ring P N) b low high (min N (first_past (low.end - (P - N)) (P - high.first)))
  odd_run o =
      early_within (P - N) N (low.end - (P - N)) (P - high.first) _ (omega (arith, e.room)) (omega (arith, low_room)) (omega (arith, e.high_first))
      (λ k l u. o) (λ k l u. o) (omega arith) (omega arith) (least N _ _)

  -- the first half of an even number
  pub early_run : (N % 2 ≡ 1 → ⊥) → b < N / 2 → RunEnd N (ring P N) b low high (min (N / 2 + 1) (first_past (low.end - (P - N)) (P - high.first)))
  early_run odd h =
      let two = even_number N odd in
      early_within (P - N) (N / 2 + 1) (low.end - (P - N)) (P - high.first) _ (omega (arith, e.room)) (omega (arith, low_room)) (omega (arith, e.high_first))
      (λ k l u. absurd (omega arith)) (λ k l u. absurd (omega arith)) (omega arith) (omega arith) (least (N / 2 + 1) _ _)

  -- where it turns
  pub turn_run : RunEnd N (ring P N) b low high (min N (b + 2))
  turn_run = record {
    ahead = omega arith;
    within = omega arith;
    even = λ k l u p. let q : k ≡ b + b % 2 = omega arith in rw q (e.low_from, e.low_to);
    odd = λ k l u p. let q : k ≡ b + 1 - b % 2 = omega arith in rw q (e.high_from, e.high_to);
  }

  -- the second half
  pub late_run : (N % 2 ≡ 1 → ⊥) → N / 2 ≤ b → (b ≡ N / 2 → ⊥) → RunEnd N (ring P N) b low high (min N (first_past (P - low.first) (high.end - (P - N))))
  late_run odd h n =
      late_within (P - N) (P - low.first) (high.end - (P - N)) _ (omega (arith, e.room)) (omega (arith, e.low_first)) (omega (arith, high_room))
      (even_number N odd) (past b N h n) (least N _ _)
