-- The arithmetic of one sweep: it leaves each playing slot at the low-water mark or above.
-- The sweep fetches k blocks that take T; its overhead is o, and O that of n blocks. L are the leads before it, M those after it.
-- E is a lead that is to have room as well; in document 01 it is 0.
-- Assumes nothing.
use Rattle.std.specs.Prelude.{ℕ, ◌+◌, ◌*◌, ◌-◌, ◌/◌, ◌≤◌, ◌<◌}
use Rattle.std.proofs.Common.{arith, mul-le-mul_left, mul-le-mul_right}
use Rattle.numbers.specs.Units.{parts, micros, whole_bytes}

-- the formula of streams leaves room for k fetches
pub room_of_streams : (c n w O B k o : ℕ) → c * (n * w + 2 * O) ≤ parts * B → k ≤ n → o ≤ O → c * (k * w + 2 * o + 0) ≤ parts * B
room_of_streams c n w O B k o fit kn less = omega (arith, mul-le-mul_right (c * w) kn, mul-le-mul_left c less)

-- and with a slot to spare, room for a lead E as well; Q is the overhead of n - 1 blocks
pub room_for_one_more : (c n w O Q B k o E : ℕ) → c * (n * w + 2 * O) ≤ parts * B → k + 1 ≤ n → o ≤ Q → Q ≤ O → E ≤ w + 2 * (O - Q)
    → c * (k * w + 2 * o + E) ≤ parts * B
room_for_one_more c n w O Q B k o E fit kn less rises within = omega (arith, mul-le-mul_right (c * w) kn, mul-le-mul_left c less, mul-le-mul_left c le)
  where
    le : E + 2 * Q ≤ w + 2 * O
    le = omega arith

module _ (c w B k o T L M E : ℕ) (room : c * (k * w + 2 * o + E) ≤ parts * B) (leads : 2 * T + M ≤ L + k * w) where
  -- a playing slot that is fetched for
  pub fetched_stays : (buffered draw : ℕ) → parts * B + c * L ≤ parts * buffered → draw ≤ c * (T + o) / micros
      → (draw ≤ buffered) × (parts * B + c * (M + E) ≤ parts * (buffered - draw + B))
  fetched_stays buffered draw floor drawn = omega (arith, mul-le-mul_left c leads)

  -- one that is not, its buffer being too full
  pub full_stays : (n margin buffered draw : ℕ) → L + E ≤ n * margin → 3 * B + whole_bytes (c * n * margin) < buffered + B
      → draw ≤ c * (T + o) / micros → (draw ≤ buffered) × (parts * B + c * (M + E) ≤ parts * (buffered - draw))
  full_stays n margin buffered draw top full drawn = omega (arith, mul-le-mul_left c leads, mul-le-mul_left c top)

  -- what the sweep may draw is within the low-water mark
  pub sweep_within : 2 * (c * (T + o)) ≤ parts * B + c * L
  sweep_within = omega (arith, mul-le-mul_left c leads)
