-- Laws of figures that are legal, and of those that are not refused.
-- Assumes nothing.
use Rattle.std.specs.Prelude.{ℕ, zero, suc, ◌+◌, ◌*◌, ◌≤◌, ◌<◌, ◌≡◌, refl, ◌⊎◌, cond, List, length, get_or}
use Rattle.std.proofs.Common.{sym, ◌∙◌, inl, inr, mul-le-mul_right, arith, ext_get_or}
use Rattle.laws.specs.Each.{zero_at}
use Rattle.laws.specs.Starts.{start_of, start_none, start_next, start_rises}
use Rattle.numbers.specs.Limits.{straight_kind, measured_kind, max_zones, max_time, max_films, table_length}
use Rattle.numbers.specs.Refusals.{wrong_zones}
use Rattle.card_field.specs.declared.Rule.TheVariants.{Kind, Zones, Positions, Films}
use Rattle.card_field.specs.Ranges.{fault_of, time_fault}
use Rattle.card_field.specs.RangeLaws.{first_none, zones_range, films_range}
use Rattle.card_table.specs.TableLaws.{Rises, InRange, no_fall_rises, straight_rises, straight_range}
use Rattle.card.specs.declared.Figures.{Figures}
use Rattle.card.specs.Card.{Legal, total_positions, length_in, blocks_of, one_film, shelf_fault, film_fault, zone_faults, unused_zero, record_fault}

-- a record that is not refused has as many zones as its entries
pub fault_zones : (k : ℕ) (f : Figures) → record_fault k f ≡ 0 → f.zones ≤ max_zones
unfolding record_fault
fault_zones k f e = (zones_range 0 f.zones (first_none (fault_of Zones 0 f.zones) _ (first_none (fault_of Kind 0 f.kind) _ e).1).0).1

-- and as many films
zones_films : (k left i : ℕ) (f : Figures) (total before : ℕ) → zone_faults k left i f total before ≡ 0 → f.films ≤ max_films
unfolding zone_faults film_fault shelf_fault
zones_films k zero i f total before e =
    (films_range 0 f.films (first_none (fault_of Films 0 f.films) _ (first_none (shelf_fault k total f.films f.blocks) _ e).0).0).1
zones_films k (suc left) i f total before e =
    let p = first_none (fault_of Positions total (get_or f.positions i 0)) _ e in
    let t = first_none (time_fault (get_or f.times 0 0) before (get_or f.times i 0)) _ p.1 in
    zones_films k left _ f _ _ t.1

pub fault_films : (k : ℕ) (f : Figures) → record_fault k f ≡ 0 → f.films ≤ max_films
unfolding record_fault
fault_films k f e =
    let z = first_none (fault_of Zones 0 f.zones) _ (first_none (fault_of Kind 0 f.kind) _ e).1 in
    zones_films k f.zones 0 f 0 max_time (first_none (cond (unused_zero f) 0 wrong_zones) _ z.1).1

-- FIGURES WITH ROOM FOR MORE POSITIONS A BLOCK HAVE ROOM FOR FEWER
pub legal_fewer : (j k : ℕ) (f : Figures) → j ≤ k → Legal k f → Legal j f
legal_fewer j k f h l = let room : j * blocks_of f ≤ total_positions f = omega (arith, mul-le-mul_right (blocks_of f) h, l.room) in search

-- half blocks ask for room, and for nothing else
pub legal_halves : (f : Figures) → Legal 1 f → 2 * blocks_of f ≤ total_positions f → Legal 2 f
legal_halves f l room = search

-- figures that are legal for half blocks are legal
pub halves_legal : (f : Figures) → Legal 2 f → Legal 1 f
halves_legal f = legal_fewer 1 2 f (omega arith)

module _ {k : ℕ} (f : Figures) (l : Legal k f) where
  -- A LEGAL TABLE DOES NOT FALL
  pub table_rises : Rises f.table
  table_rises = by l.kind
    where
      by : (f.kind ≡ straight_kind) ⊎ (f.kind ≡ measured_kind) → Rises f.table
      by (inl e) = straight_rises f.table (l.straight e)
      by (inr e) = no_fall_rises f.table (l.measured e).rising

  -- EACH ENTRY OF A LEGAL TABLE IS 1 TO 257,000,000
  pub table_range : InRange f.table
  table_range = by l.kind
    where
      by : (f.kind ≡ straight_kind) ⊎ (f.kind ≡ measured_kind) → InRange f.table
      by (inl e) = straight_range f.table (l.straight e)
      by (inr e) = (l.measured e).range

  pub table_long : length f.table ≡ table_length
  table_long = l.wide.3

-- ---- the films of a shelf

-- a film ends within the blocks of all
pub film_within : (f : Figures) (i : ℕ) → i < f.films → start_of (length_in f) i + length_in f i ≤ blocks_of f
film_within f i h = omega (arith, start_next (length_in f) i, start_rises (length_in f) (suc i) f.films h)

-- the entries of a shelf with one film: N, and zeros

pub length_one_film : (n : ℕ) → length (one_film n) ≡ max_films
unfolding one_film
length_one_film n = refl

pub one_film_first : (n : ℕ) → get_or (one_film n) 0 0 ≡ n
unfolding one_film
one_film_first n = refl

pub one_film_rest : (n i : ℕ) → 0 < i → get_or (one_film n) i 0 ≡ 0
unfolding one_film
one_film_rest n zero h = absurd (omega arith)
one_film_rest n (suc i) h = zero_at 15 i

-- entries of which all past the first are zero
pub one_film_is : (ns : List ℕ) → length ns ≡ max_films → ((i : ℕ) → 1 ≤ i → get_or ns i 0 ≡ 0) → ns ≡ one_film (get_or ns 0 0)
one_film_is ns w rest = ext_get_or 0 ns (one_film (get_or ns 0 0)) (w ∙ sym (length_one_film (get_or ns 0 0))) (λ i h. at i)
  where
    at : (i : ℕ) → get_or ns i 0 ≡ get_or (one_film (get_or ns 0 0)) i 0
    at zero = sym (one_film_first (get_or ns 0 0))
    at (suc i) = rest (suc i) (omega arith) ∙ sym (one_film_rest (get_or ns 0 0) (suc i) (omega arith))

-- its blocks are N
pub one_film_blocks : (n : ℕ) → start_of (λ i. get_or (one_film n) i 0) 1 ≡ n
one_film_blocks n =
    let N : ℕ → ℕ = λ i. get_or (one_film n) i 0 in
    omega (arith, start_next N 0, start_none N, one_film_first n)
