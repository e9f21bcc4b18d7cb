-- Laws of the ranges: a figure is not refused just where it is in its range.
-- Assumes nothing.
use Prim.Native.Nat.{ℕ, zero, suc, ◌+◌, ◌*◌, ◌-◌, ◌≤◌, ◌<◌}
use Rattle.std.specs.Prelude.{◌≡◌, refl, ◌⊎◌, Bool, true, false, cond, leb}
use Rattle.std.proofs.Common.{sym, ◌∙◌, arith, leb-true, le-leb}
use Rattle.std.proofs.Math.Logic.{inl, inr, by_cases}
use Rattle.std.proofs.Math.Decide.{dec_le}
use Rattle.numbers.specs.Limits.{straight_kind, measured_kind, max_number, max_zones, max_positions, max_time, times_as_fast}
use Rattle.numbers.specs.Limits.{min_blocks, max_blocks, max_films, max_overhead}
use Rattle.numbers.specs.Refusals.{wrong_kind, wrong_zones, wrong_positions, wrong_time, rising_time}
use Rattle.numbers.specs.Refusals.{wrong_blocks, blocks_above_positions, wrong_measure, wrong_overhead, half_dead_time, halves_above_positions, wrong_films}
use Rattle.card_field.specs.declared.Rule.TheVariants.{Kind, Zones, Positions, Films, Measure, Overhead}
use Rattle.card_field.specs.Ranges.{first, below, above, outside, then_above, then_below, fault_of, time_fault, room_fault, blocks_fault}

-- no fault of two is no fault of either
pub first_none : (j k : ℕ) → first j k ≡ 0 → (j ≡ 0) × (k ≡ 0)
unfolding first
first_none zero k e = (refl, e)
first_none (suc j) k e = absurd (omega arith)

pub first_clear : {j k : ℕ} → j ≡ 0 → k ≡ 0 → first j k ≡ 0
unfolding first
first_clear p q = rw (p, q)

-- the first of three
pub first_assoc : (i j k : ℕ) → first (first i j) k ≡ first i (first j k)
unfolding first
first_assoc zero j k = refl
first_assoc (suc i) j k = refl

-- a fault stops the judge; where there is none the next one is judged
module _ {k k' : ℕ} (same : k ≡ k') (later : ℕ) where
  pub first_stops : (k ≡ 0 → ⊥) → k ≡ first k' later
  unfolding first
  first_stops n = go k' same
    where
      go : (j : ℕ) → k ≡ j → k ≡ first j later
      go zero e = absurd (n e)
      go (suc j) e = e

  pub first_goes : k ≡ 0 → later ≡ first k' later
  unfolding first
  first_goes z = rw (sym same ∙ z)

pub above_range : (most k v : ℕ) → 0 < k → above most k v ≡ 0 → v ≤ most
unfolding above
above_range most k v p e = go (leb v most) refl e
  where
    go : (t : Bool) → leb v most ≡ t → cond t 0 k ≡ 0 → v ≤ most
    go true q e = leb-true v most q
    go false q e = absurd (omega arith)

pub range_above : (most k v : ℕ) → v ≤ most → above most k v ≡ 0
unfolding above
range_above most k v h = rw (le-leb v most h)

pub below_range : (least k v : ℕ) → 0 < k → below least k v ≡ 0 → least ≤ v
unfolding below
below_range least k v p e = go (leb least v) refl e
  where
    go : (t : Bool) → leb least v ≡ t → cond t 0 k ≡ 0 → least ≤ v
    go true q e = leb-true least v q
    go false q e = absurd (omega arith)

pub range_below : (least k v : ℕ) → least ≤ v → below least k v ≡ 0
unfolding below
range_below least k v h = rw (le-leb least v h)

pub outside_range : (least most k v : ℕ) → 0 < k → outside least most k v ≡ 0 → (least ≤ v) × (v ≤ most)
unfolding outside
outside_range least most k v p e =
    let h = first_none (below least k v) (above most k v) e in
    (below_range least k v p h.0, above_range most k v p h.1)

pub range_outside : (least most k v : ℕ) → least ≤ v → v ≤ most → outside least most k v ≡ 0
unfolding outside
range_outside least most k v l h = first_clear (range_below least k v l) (range_above most k v h)

-- no room is a fault, however many positions a block takes; 9 for one, 28 for two
pub room_some : (k : ℕ) → 0 < room_fault k
unfolding room_fault
room_some k = go (leb k 1)
  where
    go : (t : Bool) → 0 < cond t blocks_above_positions halves_above_positions
    go true = omega arith
    go false = omega arith

pub room_whole : room_fault 1 ≡ blocks_above_positions
unfolding room_fault
room_whole = refl

pub room_halves : room_fault 2 ≡ halves_above_positions
unfolding room_fault
room_halves = refl

module _ (bound v : ℕ) where
  pub kind_range : fault_of Kind bound v ≡ 0 → (v ≡ straight_kind) ⊎ (v ≡ measured_kind)
  unfolding fault_of
  kind_range e =
      let r = outside_range straight_kind measured_kind wrong_kind v (omega arith) e in
      by_cases (dec_le v straight_kind) (λ h. inl (omega arith)) (λ h. inr (omega arith))

  pub zones_range : fault_of Zones bound v ≡ 0 → (1 ≤ v) × (v ≤ max_zones)
  unfolding fault_of
  zones_range e = outside_range 1 max_zones wrong_zones v (omega arith) e

  pub positions_range : fault_of Positions bound v ≡ 0 → (1 ≤ v) × (bound + v ≤ max_positions)
  unfolding fault_of then_above
  positions_range e =
      let h = first_none (outside 1 max_number wrong_positions v) (above max_positions wrong_positions (bound + v)) e in
      ((outside_range 1 max_number wrong_positions v (omega arith) h.0).0, above_range max_positions wrong_positions (bound + v) (omega arith) h.1)

  pub time_range : (innermost : ℕ) → time_fault innermost bound v ≡ 0 → (1 ≤ v) × (v ≤ max_time) × (v ≤ bound) × (innermost ≤ times_as_fast * v)
  unfolding time_fault then_above then_below
  time_range innermost e =
      let d = first_none (then_above (outside 1 max_time wrong_time v) bound rising_time v) (below innermost half_dead_time (times_as_fast * v)) e in
      let h = first_none (outside 1 max_time wrong_time v) (above bound rising_time v) d.0 in
      let r = outside_range 1 max_time wrong_time v (omega arith) h.0 in
      (r.0, r.1, above_range bound rising_time v (omega arith) h.1, below_range innermost half_dead_time (times_as_fast * v) (omega arith) d.1)

  pub films_range : fault_of Films bound v ≡ 0 → (1 ≤ v) × (v ≤ max_films)
  unfolding fault_of
  films_range e = outside_range 1 max_films wrong_films v (omega arith) e

  pub measure_range : fault_of Measure bound v ≡ 0 → (1 ≤ v) × (v ≤ bound)
  unfolding fault_of
  measure_range e = outside_range 1 bound wrong_measure v (omega arith) e

  pub overhead_range : fault_of Overhead bound v ≡ 0 → (1 ≤ v) × (v ≤ max_overhead) × (bound ≤ v)
  unfolding fault_of then_below
  overhead_range e =
      let h = first_none (outside 1 max_overhead wrong_overhead v) (below bound wrong_overhead v) e in
      let r = outside_range 1 max_overhead wrong_overhead v (omega arith) h.0 in
      (r.0, r.1, below_range bound wrong_overhead v (omega arith) h.1)

  pub kind_legal : (v ≡ straight_kind) ⊎ (v ≡ measured_kind) → fault_of Kind bound v ≡ 0
  unfolding fault_of
  kind_legal (inl e) = range_outside straight_kind measured_kind wrong_kind v (omega arith) (omega arith)
  kind_legal (inr e) = range_outside straight_kind measured_kind wrong_kind v (omega arith) (omega arith)

  pub zones_legal : 1 ≤ v → v ≤ max_zones → fault_of Zones bound v ≡ 0
  unfolding fault_of
  zones_legal l h = range_outside 1 max_zones wrong_zones v l h

  pub positions_legal : 1 ≤ v → bound + v ≤ max_positions → fault_of Positions bound v ≡ 0
  unfolding fault_of then_above
  positions_legal l h = first_clear (range_outside 1 max_number wrong_positions v l (omega arith)) (range_above max_positions wrong_positions (bound + v) h)

  pub time_legal : (innermost : ℕ) → 1 ≤ v → v ≤ max_time → v ≤ bound → innermost ≤ times_as_fast * v → time_fault innermost bound v ≡ 0
  unfolding time_fault then_above then_below
  time_legal innermost l h b a =
      first_clear (first_clear (range_outside 1 max_time wrong_time v l h) (range_above bound rising_time v b))
      (range_below innermost half_dead_time (times_as_fast * v) a)

  pub films_legal : 1 ≤ v → v ≤ max_films → fault_of Films bound v ≡ 0
  unfolding fault_of
  films_legal l h = range_outside 1 max_films wrong_films v l h

  pub measure_legal : 1 ≤ v → v ≤ bound → fault_of Measure bound v ≡ 0
  unfolding fault_of
  measure_legal l h = range_outside 1 bound wrong_measure v l h

  pub overhead_legal : 1 ≤ v → v ≤ max_overhead → bound ≤ v → fault_of Overhead bound v ≡ 0
  unfolding fault_of then_below
  overhead_legal l h b = first_clear (range_outside 1 max_overhead wrong_overhead v l h) (range_below bound wrong_overhead v b)

-- N of a film after others of `sofar` blocks; each block takes k positions
module _ (k total sofar v : ℕ) where
  -- THE POSITIONS LEFT ARE ENOUGH FOR A FILM JUST WHERE ALL ARE ENOUGH FOR IT AND THOSE BEFORE IT
  pub room_left : 0 < v → k * v ≤ total - k * sofar → k * (sofar + v) ≤ total
  room_left some h = go k h
    where
      go : (k : ℕ) → k * v ≤ total - k * sofar → k * (sofar + v) ≤ total
      go zero h = omega arith
      go (suc k) h = omega arith

  pub left_room : k * (sofar + v) ≤ total → k * v ≤ total - k * sofar
  left_room h = omega arith

  pub blocks_range : blocks_fault k total sofar v ≡ 0 → (min_blocks ≤ v) × (v ≤ max_blocks) × (sofar + v ≤ max_blocks) × (k * (sofar + v) ≤ total)
  unfolding blocks_fault then_above
  blocks_range e =
      let d = first_none (then_above (outside min_blocks max_blocks wrong_blocks v) max_blocks wrong_films (sofar + v)) _ e in
      let h = first_none (outside min_blocks max_blocks wrong_blocks v) (above max_blocks wrong_films (sofar + v)) d.0 in
      let r = outside_range min_blocks max_blocks wrong_blocks v (omega arith) h.0 in
      let left = above_range (total - k * sofar) (room_fault k) (k * v) (room_some k) d.1 in
      (r.0, r.1, above_range max_blocks wrong_films (sofar + v) (omega arith) h.1, room_left (omega arith) left)

  pub blocks_legal : min_blocks ≤ v → v ≤ max_blocks → sofar + v ≤ max_blocks → k * (sofar + v) ≤ total → blocks_fault k total sofar v ≡ 0
  unfolding blocks_fault then_above
  blocks_legal l h a b =
      first_clear (first_clear (range_outside min_blocks max_blocks wrong_blocks v l h) (range_above max_blocks wrong_films (sofar + v) a))
      (range_above (total - k * sofar) (room_fault k) (k * v) (left_room b))

-- three times a time that is in its range is a number of 32 bits
pub thrice_fits : (v : ℕ) → v ≤ max_time → times_as_fast * v ≤ max_number
thrice_fits v h = omega arith
