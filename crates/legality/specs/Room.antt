-- A record that is not refused has room for the blocks of its films, whatever the lengths of its lists.
-- Assumes nothing.
use Rattle.std.specs.Prelude.{ℕ, zero, suc, ◌+◌, ◌*◌, ◌≤◌, ◌<◌, ◌≡◌, List, length, get_or, take, drop}
use Rattle.std.proofs.Math.Logic.{by_cases}
use Rattle.std.proofs.Common.{arith, drop-cons}
use Rattle.std.proofs.Math.Decide.{dec_lt}
use Rattle.std.proofs.Math.ListN.{get_or-eq_default}
use Rattle.laws.specs.Runs.{sum_by}
use Rattle.numbers.specs.Limits.{max_time}
use Rattle.card.specs.declared.Figures.{Figures}
use Rattle.card_field.specs.declared.Rule.TheVariants.{Positions}
use Rattle.card_field.specs.Ranges.{fault_of, time_fault}
use Rattle.card_field.specs.RangeLaws.{first_none, positions_range}
use Rattle.card.specs.Card.{total_positions, blocks_of, shelf_fault, film_fault, zone_faults, record_fault}
use Rattle.legality.specs.Films.{fault_shelf}
use Rattle.legality.specs.Legality.{fault_judged}

-- a number that is not 0 stands in the list
within : (xs : List ℕ) (i : ℕ) → 1 ≤ get_or xs i 0 → i < length xs
within xs i h = by_cases (dec_lt i (length xs)) (λ l. l) (λ l. absurd (omega (arith, get_or-eq_default xs 0 {n = i} (omega arith))))

zones_room : (k left i : ℕ) (f : Figures) (total before : ℕ) → zone_faults k left i f total before ≡ 0
    → k * blocks_of f ≤ total + sum_by (λ (p : ℕ). p) (take left (drop i f.positions))
unfolding zone_faults film_fault sum_by
zones_room k zero i f total before e =
    let shelf = fault_shelf k total f.blocks f.films (first_none (shelf_fault k total f.films f.blocks) _ e).0 in
    omega (arith, shelf.room)
zones_room k (suc left) i f total before e =
    let p = first_none (fault_of Positions total (get_or f.positions i 0)) _ e in
    let q = first_none (time_fault (get_or f.times 0 0) before (get_or f.times i 0)) _ p.1 in
    let some = (positions_range total (get_or f.positions i 0) p.0).0 in
    let next : i + 1 ≡ suc i = omega arith in
    let later = zones_room k left (i + 1) f (total + get_or f.positions i 0) (get_or f.times i 0) q.1 in
    rw (drop-cons f.positions i 0 (within f.positions i some)) (omega (arith, rw next at later))

pub fault_room : (k : ℕ) (f : Figures) → record_fault k f ≡ 0 → k * blocks_of f ≤ total_positions f
unfolding total_positions
fault_room k f e = omega (arith, zones_room k f.zones 0 f 0 max_time (fault_judged k f e).faults)
