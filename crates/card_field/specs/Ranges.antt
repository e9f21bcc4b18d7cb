-- The ranges of a card's figures (K4), and the refusal of each (R3 to R10; 25, T3.7; 26, T8.3; 28, T11; 30, T14).
use Rattle.std.specs.Prelude.{ℕ, zero, suc, ◌+◌, ◌*◌, ◌-◌, cond, leb}
use Rattle.numbers.specs.Limits.{straight_kind, measured_kind, max_number, max_zones, max_positions, max_time, times_as_fast}
use Rattle.numbers.specs.Limits.{min_blocks, max_blocks, max_films, max_overhead}
use Rattle.numbers.specs.Refusals.{wrong_kind, wrong_zones, wrong_positions, wrong_time, rising_time}
use Rattle.numbers.specs.Refusals.{wrong_blocks, blocks_above_positions, wrong_measure, wrong_overhead, half_dead_time, halves_above_positions, wrong_films}
use Rattle.card_field.specs.declared.Rule.{Rule}
use Rattle.card_field.specs.declared.Rule.TheVariants.{Kind, Zones, Positions, Films, Measure, Overhead}

-- the first fault of two; 0 is none
unfoldable pub first : ℕ → ℕ → ℕ
first zero later = later
first (suc k) later = suc k

-- refused by k below the least value, or above the greatest
unfoldable pub below : ℕ → ℕ → ℕ → ℕ
below least k v = cond (leb least v) 0 k

unfoldable pub above : ℕ → ℕ → ℕ → ℕ
above most k v = cond (leb v most) 0 k

unfoldable pub outside : ℕ → ℕ → ℕ → ℕ → ℕ
outside least most k v = first (below least k v) (above most k v)

unfoldable pub then_above : ℕ → ℕ → ℕ → ℕ → ℕ
then_above fault most k v = first fault (above most k v)

unfoldable pub then_below : ℕ → ℕ → ℕ → ℕ → ℕ
then_below fault least k v = first fault (below least k v)

-- the refusal of the value v of a figure, 0 where it is in range; of a zone's time and of N below. The bound is the total of positions so
-- far, the greatest value of B, c, hop or return, or the overhead before
unfoldable pub fault_of : Rule → ℕ → ℕ → ℕ
fault_of Kind bound v = outside straight_kind measured_kind wrong_kind v
fault_of Zones bound v = outside 1 max_zones wrong_zones v
fault_of Positions total v = then_above (outside 1 max_number wrong_positions v) max_positions wrong_positions (total + v)
fault_of Films bound v = outside 1 max_films wrong_films v
fault_of Measure most v = outside 1 most wrong_measure v
fault_of Overhead before v = then_below (outside 1 max_overhead wrong_overhead v) before wrong_overhead v

-- the refusal of a zone's time, 0 where it is legal: out of range, then above the time of the zone before, then, times three, below
-- the first zone's
unfoldable pub time_fault : ℕ → ℕ → ℕ → ℕ
time_fault innermost before v = then_below (then_above (outside 1 max_time wrong_time v) before rising_time v) innermost half_dead_time (times_as_fast * v)

-- the refusal of a film without room, each block on k positions: 9, for half blocks (k is 2) 28
unfoldable pub room_fault : ℕ → ℕ
room_fault k = cond (leb k 1) blocks_above_positions halves_above_positions

-- the refusal of a film's N, 0 where it is legal (document 02, ticket 14): out of range, then above 16,384 with the blocks of the films
-- before it, then k times N above the positions that those leave free; total is P
unfoldable pub blocks_fault : ℕ → ℕ → ℕ → ℕ → ℕ
blocks_fault k total sofar v =
    then_above (then_above (outside min_blocks max_blocks wrong_blocks v) max_blocks wrong_films (sofar + v)) (total - k * sofar) (room_fault k) (k * v)
