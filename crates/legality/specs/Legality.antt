-- The judge of a record refuses nothing just where the figures are legal.
-- Assumes nothing.
use Rattle.std.specs.Prelude.{ℕ, zero, suc, ◌+◌, ◌*◌, ◌≤◌, ◌<◌, ◌≡◌, refl, ◌⊎◌, ◌↔◌, true, cond, length, get_or, take, drop}
use Rattle.std.proofs.Common.{sym, ap, subst, arith, drop-cons}
use Rattle.std.proofs.Math.Logic.{by_cases}
use Rattle.std.proofs.Math.Decide.{ℕ_discrete}
use Rattle.laws.specs.Bools.{and_left, and_right, and_both}
use Rattle.laws.specs.Runs.{sum_by}
use Rattle.numbers.specs.Limits.{straight_kind, measured_kind, max_zones, max_positions, max_time, times_as_fast, max_films, max_bytes, max_rate, table_length}
use Rattle.numbers.specs.Refusals.{wrong_zones}
use Rattle.card.specs.declared.Figures.{Figures}
use Rattle.card.specs.declared.Verdict.{Verdict}
use Rattle.card_field.specs.declared.Rule.TheVariants.{Kind, Zones, Positions, Measure}
use Rattle.card_field.specs.Ranges.{fault_of, time_fault}
use Rattle.card_table.specs.TableFaults.{TableLegal, fault_table, table_fault_law}
use Rattle.card.specs.Card.{Legal, total_positions, zeros, shelf_fault, film_fault, zone_faults, zeros_from, unused_zero, record_fault, judge_record}
use Rattle.card.specs.CardLaws.{legal_fewer}
use Rattle.card.specs.Read.{accepted}
use Rattle.card_field.specs.RangeLaws.{first_none, first_clear, kind_range, zones_range, positions_range, time_range}
use Rattle.card_field.specs.RangeLaws.{measure_range, kind_legal, zones_legal, positions_legal, time_legal, measure_legal}
use Rattle.legality.specs.Zeros.{zeros_at, at_zeros, clear}
use Rattle.legality.specs.Films.{from_here, ShelfLegal, fault_shelf, shelf_fault_law}

-- a record has 64 zone entries, 16 film entries and 257 overheads
abbrev pub Wide : Figures → Type 0
Wide f = (length f.positions ≡ max_zones) × (length f.times ≡ max_zones) × (length f.blocks ≡ max_films) × (length f.table ≡ table_length)

-- the kind of a record is 1 or 2
abbrev pub Kinded : Figures → Type 0
Kinded f = (f.kind ≡ straight_kind) ⊎ (f.kind ≡ measured_kind)

-- ---- the films

-- the shelf, B, c and the overheads in their ranges, total being P and k the positions of a block
pub record FilmLegal (k : ℕ) (f : Figures) (total : ℕ) : Type 0 where
  pub shelf : ShelfLegal k total f.blocks f.films
  pub bytes : (1 ≤ f.bytes) × (f.bytes ≤ max_bytes)
  pub rate : (1 ≤ f.rate) × (f.rate ≤ max_rate)
  pub table : TableLegal f.kind f.table

-- films that are not refused are legal, and back
pub fault_film : (k : ℕ) (f : Figures) (total : ℕ) → length f.table ≡ table_length → film_fault k f total ≡ 0 → FilmLegal k f total
unfolding film_fault
fault_film k f total w e =
    let n = first_none (shelf_fault k total f.films f.blocks) _ e in
    let b = first_none (fault_of Measure max_bytes f.bytes) _ n.1 in
    let c = first_none (fault_of Measure max_rate f.rate) _ b.1 in
    record {
      shelf = fault_shelf k total f.blocks f.films n.0;
      bytes = measure_range max_bytes f.bytes b.0;
      rate = measure_range max_rate f.rate c.0;
      table = fault_table f.kind f.table w c.1;
    }

film_fault_law : (k : ℕ) (f : Figures) (total : ℕ) → Kinded f → FilmLegal k f total → film_fault k f total ≡ 0
unfolding film_fault
film_fault_law k f total d l =
    first_clear (shelf_fault_law k total f.blocks f.films l.shelf)
    (first_clear (measure_legal max_bytes f.bytes l.bytes.0 l.bytes.1)
    (first_clear (measure_legal max_rate f.rate l.rate.0 l.rate.1) (table_fault_law f.kind f.table d l.table)))

-- ---- the zones

-- the positions of `left` zones from the i-th on
unfoldable sum_from : ℕ → ℕ → Figures → ℕ
sum_from left i f = sum_by (λ (p : ℕ). p) (take left (drop i f.positions))

-- the sum's two clauses
sum_none : (i : ℕ) (f : Figures) → sum_from 0 i f ≡ 0
unfolding sum_from sum_by
sum_none i f = refl

sum_here : (left i : ℕ) (f : Figures) → i < length f.positions → sum_from (suc left) i f ≡ get_or f.positions i 0 + sum_from left (i + 1) f
unfolding sum_from sum_by
sum_here left i f h = let e : i + 1 ≡ suc i = omega arith in rw (drop-cons f.positions i 0 h, e)

-- `left` zones from the i-th on and the film are legal, after zones of `total` positions of which the last has the time `before`
record ZonesLegal (k left i : ℕ) (f : Figures) (total before : ℕ) : Type 0 where
  positions : (j : ℕ) → i ≤ j → j < i + left → 1 ≤ get_or f.positions j 0
  times : (j : ℕ) → i ≤ j → j < i + left → (1 ≤ get_or f.times j 0) × (get_or f.times j 0 ≤ max_time)
  start : 0 < left → get_or f.times i 0 ≤ before
  falling : (j : ℕ) → i ≤ j → suc j < i + left → get_or f.times (suc j) 0 ≤ get_or f.times j 0
  thrice : (j : ℕ) → i ≤ j → j < i + left → get_or f.times 0 0 ≤ times_as_fast * get_or f.times j 0
  sum : total + sum_from left i f ≤ max_positions
  film : FilmLegal k f (total + sum_from left i f)

-- zones that are not refused are legal
fault_zones_legal : (k left i : ℕ) (f : Figures) (total before : ℕ) → i + left ≤ length f.positions → length f.table ≡ table_length → total ≤ max_positions
    → zone_faults k left i f total before ≡ 0 → ZonesLegal k left i f total before
unfolding zone_faults
fault_zones_legal k zero i f total before w x t e =
    let sum : total + sum_from 0 i f ≡ total = omega (arith, sum_none i f) in
    record {
      positions = λ j l h. absurd (omega arith);
      times = λ j l h. absurd (omega arith);
      start = λ h. absurd (omega arith);
      falling = λ j l h. absurd (omega arith);
      thrice = λ j l h. absurd (omega arith);
      sum = omega arith;
      film = fault_film k f (total + sum_from 0 i f) x (rw sum e);
    }
fault_zones_legal k (suc left) i f total before w x t e =
    let p = first_none (fault_of Positions total (get_or f.positions i 0)) _ e in
    let q = first_none (time_fault (get_or f.times 0 0) before (get_or f.times i 0)) _ p.1 in
    let few = positions_range total (get_or f.positions i 0) p.0 in
    let slow = time_range before (get_or f.times i 0) (get_or f.times 0 0) q.0 in
    let later = fault_zones_legal k left (i + 1) f (total + get_or f.positions i 0) (get_or f.times i 0) (omega arith) x few.1 q.1 in
    let next : i + 1 ≡ suc i = omega arith in
    let sum : total + sum_from (suc left) i f ≡ total + get_or f.positions i 0 + sum_from left (i + 1) f = omega (arith, sum_here left i f (omega arith)) in
    record {
      positions = from_here (λ j. 1 ≤ get_or f.positions j 0) i left few.0 later.positions;
      times = from_here (λ j. (1 ≤ get_or f.times j 0) × (get_or f.times j 0 ≤ max_time)) i left (slow.0, slow.1) later.times;
      start = λ h. slow.2;
      falling = λ j l h. by_cases (ℕ_discrete i j)
          (λ n. subst (λ (k : ℕ). get_or f.times (suc k) 0 ≤ get_or f.times k 0) n (rw (sym next) (later.start (omega arith))))
          (λ n. later.falling j (omega arith) (omega arith));
      thrice = from_here (λ j. get_or f.times 0 0 ≤ times_as_fast * get_or f.times j 0) i left slow.3 later.thrice;
      sum = omega (arith, later.sum);
      film = rw sum later.film;
    }

-- legal zones are not refused
zones_legal_fault : (k left i : ℕ) (f : Figures) (total before : ℕ) → i + left ≤ length f.positions → Kinded f
    → ZonesLegal k left i f total before → zone_faults k left i f total before ≡ 0
unfolding zone_faults
zones_legal_fault k zero i f total before w d l =
    let sum : total + sum_from 0 i f ≡ total = omega (arith, sum_none i f) in
    rw sum at (film_fault_law k f (total + sum_from 0 i f) d l.film)
zones_legal_fault k (suc left) i f total before w d l =
    let sum : total + sum_from (suc left) i f ≡ total + get_or f.positions i 0 + sum_from left (i + 1) f = omega (arith, sum_here left i f (omega arith)) in
    let next : i + 1 ≡ suc i = omega arith in
    let times = l.times i (omega arith) (omega arith) in
    let later : ZonesLegal k left (i + 1) f (total + get_or f.positions i 0) (get_or f.times i 0) = record {
      positions = λ j m h. l.positions j (omega arith) (omega arith);
      times = λ j m h. l.times j (omega arith) (omega arith);
      start = λ h. rw next (l.falling i (omega arith) (omega arith));
      falling = λ j m h. l.falling j (omega arith) (omega arith);
      thrice = λ j m h. l.thrice j (omega arith) (omega arith);
      sum = omega (arith, l.sum);
      film = rw (sym sum) l.film;
    } in
    first_clear (positions_legal total (get_or f.positions i 0) (l.positions i (omega arith) (omega arith)) (omega (arith, l.sum)))
    (first_clear
    (time_legal before (get_or f.times i 0) (get_or f.times 0 0) times.0 times.1 (l.start (omega arith)) (l.thrice i (omega arith) (omega arith)))
    (zones_legal_fault k left (i + 1) f (total + get_or f.positions i 0) (get_or f.times i 0) (omega arith) d later))

-- ---- the record

-- entries past the zone count are zero
abbrev pub Unused : Figures → Type 0
Unused f = (i : ℕ) → f.zones ≤ i → (get_or f.positions i 0 ≡ 0) × (get_or f.times i 0 ≡ 0)

-- and so are those past the films
abbrev pub Idle : Figures → Type 0
Idle f = (i : ℕ) → f.films ≤ i → get_or f.blocks i 0 ≡ 0

-- what the judge of a record looks at, one by one
pub record Judged (k : ℕ) (f : Figures) : Type 0 where
  pub kind : Kinded f
  pub zones : (1 ≤ f.zones) × (f.zones ≤ max_zones)
  pub unused : Unused f
  pub faults : zone_faults k f.zones 0 f 0 max_time ≡ 0

-- a record without a fault has none of these, and back
pub fault_judged : (k : ℕ) (f : Figures) → record_fault k f ≡ 0 → Judged k f
unfolding record_fault unused_zero zeros_from
fault_judged k f e =
    let d = first_none (fault_of Kind 0 f.kind) _ e in
    let z = first_none (fault_of Zones 0 f.zones) _ d.1 in
    let u = first_none (cond (unused_zero f) 0 wrong_zones) _ z.1 in
    let both = clear wrong_zones (omega arith) (unused_zero f) u.0 in
    let ps = and_left (zeros f.zones f.positions) _ both in
    let ts = and_right (zeros f.zones f.positions) _ both in
    record {
      kind = kind_range 0 f.kind d.0;
      zones = zones_range 0 f.zones z.0;
      unused = λ i l. (zeros_at f.zones f.positions ps i l, zeros_at f.zones f.times ts i l);
      faults = u.1;
    }

pub judged_fault : (k : ℕ) (f : Figures) → Judged k f → record_fault k f ≡ 0
unfolding record_fault unused_zero zeros_from
judged_fault k f j =
    let ps = at_zeros f.zones f.positions (λ i l. (j.unused i l).0) in
    let ts = at_zeros f.zones f.times (λ i l. (j.unused i l).1) in
    let both : unused_zero f ≡ true = and_both ps ts in
    first_clear (kind_legal 0 f.kind j.kind) (first_clear (zones_legal 0 f.zones j.zones.0 j.zones.1) (first_clear (rw both) j.faults))

-- the positions from the first zone on are P
sum_total : (f : Figures) → 0 + sum_from f.zones 0 f ≡ total_positions f
unfolding sum_from total_positions
sum_total f = omega arith

-- FIGURES THAT ARE NOT REFUSED ARE LEGAL
pub fault_legal : (k : ℕ) (f : Figures) → Wide f → record_fault k f ≡ 0 → Legal k f
fault_legal k f w e =
    let j = fault_judged k f e in
    let l = fault_zones_legal k f.zones 0 f 0 max_time (omega (arith, j.zones)) w.3 (omega arith) j.faults in
    record {
      wide = w;
      kind = j.kind;
      zones = j.zones;
      unused = j.unused;
      positions = λ i h. l.positions i (omega arith) (omega arith);
      total = omega (arith, l.sum, sum_total f);
      times = λ i h. l.times i (omega arith) (omega arith);
      falling = λ i h. l.falling i (omega arith) (omega arith);
      thrice = λ i h. l.thrice i (omega arith) (omega arith);
      films = l.film.shelf.count;
      idle = l.film.shelf.idle;
      blocks = l.film.shelf.blocks;
      all = l.film.shelf.all;
      room = omega (arith, l.film.shelf.room, sum_total f);
      bytes = l.film.bytes;
      rate = l.film.rate;
      straight = l.film.table.straight;
      measured = l.film.table.measured;
    }

-- LEGAL FIGURES ARE NOT REFUSED
pub legal_fault : (k : ℕ) (f : Figures) → Legal k f → record_fault k f ≡ 0
legal_fault k f l =
    let film : FilmLegal k f (0 + sum_from f.zones 0 f) = record {
      shelf = record {
        count = l.films;
        idle = l.idle;
        blocks = l.blocks;
        all = l.all;
        room = omega (arith, l.room, sum_total f);
      };
      bytes = l.bytes;
      rate = l.rate;
      table = record { straight = l.straight; measured = l.measured };
    } in
    let zones : ZonesLegal k f.zones 0 f 0 max_time = record {
      positions = λ j m h. l.positions j (omega arith);
      times = λ j m h. l.times j (omega arith);
      start = λ h. (l.times 0 h).1;
      falling = λ j m h. l.falling j (omega arith);
      thrice = λ j m h. l.thrice j (omega arith);
      sum = omega (arith, l.total, sum_total f);
      film = film;
    } in
    judged_fault k f (record {
      kind = l.kind;
      zones = l.zones;
      unused = l.unused;
      faults = zones_legal_fault k f.zones 0 f 0 max_time (omega (arith, l.zones, l.wide)) l.kind zones;
    })

-- THE JUDGE ACCEPTS EXACTLY THE LEGAL FIGURES
pub judge_legal : (k : ℕ) (f : Figures) → Wide f → ((judge_record k f ≡ accepted) ↔ Legal k f) × ((record_fault k f ≡ 0) ↔ Legal k f)
unfolding judge_record
judge_legal k f w = (
  (λ e. fault_legal k f w (ap (λ (v : Verdict). v.number) e), λ l. ap (λ (n : ℕ). record { number = n; place = 0 }) (legal_fault k f l)),
  (fault_legal k f w, legal_fault k f),
)

-- A RECORD THAT IS NOT REFUSED FOR MORE POSITIONS A BLOCK IS NOT FOR FEWER
pub fault_fewer : (j k : ℕ) (f : Figures) → j ≤ k → Wide f → record_fault k f ≡ 0 → record_fault j f ≡ 0
fault_fewer j k f h w e = legal_fault j f (legal_fewer j k f h (fault_legal k f w e))
