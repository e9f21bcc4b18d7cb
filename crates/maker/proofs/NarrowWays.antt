-- Positions and times past 32 bits are out of range, and so is 4,294,967,295: with it in their place the judge answers the same.
-- Assumes nothing.
use Prim.Native.Nat.{ℕ, zero, suc, ◌+◌, ◌≤◌, ◌<◌}
use mathlib.Core.Path.{◌≡◌, refl, sym, ap, ap₂, ◌∙◌}
use mathlib.Core.List.{List, [], ◌∷◌, map}
use mathlib.Core.Bool.{Bool, true, false, cond, ◌&&◌}
use native.Mathlib.Omega.{arith}
use native.Mathlib.Decide.{dec_le, dec_lt, ℕ_discrete}
use lib.ListN.{get_or, drop}
use lib.Dec.{leb, eqb}
use borrow.Author.Tests.{le-leb, lt-leb, ne_eqb}
use Rattle.laws.specs.Runs.{all_by}
use Rattle.numbers.specs.Limits.{max_number, max_positions, max_time}
use Rattle.numbers.specs.Refusals.{wrong_positions, wrong_time, wrong_zones}
use Rattle.card.specs.declared.Figures.{Figures}
use Rattle.card_field.specs.declared.Rule.TheVariants.{Kind, Positions, Zones}
use Rattle.card_field.specs.Ranges.{first, below, above, outside, then_above, then_below, fault_of, time_fault}
use Rattle.card_field.specs.RangeLaws.{first_none, positions_range, time_range}
use Rattle.card.specs.Card.{film_fault, zone_faults, zeros_from, unused_zero, record_fault}
use Rattle.legality.specs.Legality.{Judged, fault_judged}
use Rattle.tracks.specs.Tracks.{narrowed}
use Rattle.tracks.specs.TracksLaws.{narrowed_small, narrowed_great}
use Rattle.maker.specs.Maker.{answered, judged_figures}

-- ---- what is out of range

positions_great : (total v : ℕ) → max_positions < v → fault_of Positions total v ≡ wrong_positions
unfolding fault_of then_above outside below above first
positions_great total v h = rw (le-leb 1 v (omega arith), lt-leb (total + v) max_positions (omega arith)) (go (leb v max_number))
  where
    go : (t : Bool) → first (first 0 (cond t 0 wrong_positions)) wrong_positions ≡ wrong_positions
    go true = refl
    go false = refl

time_great : (innermost before v : ℕ) → max_time < v → time_fault innermost before v ≡ wrong_time
unfolding time_fault then_below then_above outside below above first
time_great innermost before v h = rw (le-leb 1 v (omega arith), lt-leb v max_time h)

-- ---- lists of narrowed numbers

narrowed_none : narrowed 0 ≡ 0
narrowed_none = narrowed_small 0 (omega arith)

-- a number and the narrowed one are both 0 or both not
narrowed_zero : (v : ℕ) → eqb (narrowed v) 0 ≡ eqb v 0
narrowed_zero v = elim (dec_le v max_number) [
  | yes h ↦ ap (λ (x : ℕ). eqb x 0) (narrowed_small v h)
  | no h ↦ ap (λ (x : ℕ). eqb x 0) (narrowed_great v (omega arith)) ∙ sym (ne_eqb v 0 (λ e. omega arith))
]

pub get_d_narrowed : (xs : List ℕ) (i : ℕ) → get_or (map narrowed xs) i 0 ≡ narrowed (get_or xs i 0)
get_d_narrowed [] i = sym narrowed_none
get_d_narrowed (x ∷ xs) zero = refl
get_d_narrowed (x ∷ xs) (suc i) = get_d_narrowed xs i

-- unused entries are zero in both
unused_narrowed : (i : ℕ) (xs : List ℕ) → all_by (λ (v : ℕ). eqb v 0) (drop i (map narrowed xs)) ≡ all_by (λ (v : ℕ). eqb v 0) (drop i xs)
unfolding all_by
unused_narrowed zero [] = refl
unused_narrowed zero (x ∷ xs) = ap₂ (λ (a b : Bool). a && b) (narrowed_zero x) (unused_narrowed zero xs)
unused_narrowed (suc i) [] = refl
unused_narrowed (suc i) (x ∷ xs) = unused_narrowed i xs

map_same : (xs : List ℕ) → ((i : ℕ) → narrowed (get_or xs i 0) ≡ get_or xs i 0) → map narrowed xs ≡ xs
map_same [] h = refl
map_same (x ∷ xs) h = ap₂ (λ (y : ℕ) (ys : List ℕ). y ∷ ys) (h 0) (map_same xs (λ i. h (suc i)))

-- ---- the judge

-- one zone: p positions and time t, the first zone's time t₀, and the same narrowed; later is what the zones after it say
zone_same : (total before p t t₀ p' t' t₀' later later' : ℕ) → p' ≡ narrowed p → t' ≡ narrowed t → t₀' ≡ narrowed t₀ → (t ≤ max_time → t₀ ≤ max_time)
    → (p ≤ max_positions → t ≤ max_time → later' ≡ later)
    → first (fault_of Positions total p') (first (time_fault t₀' before t') later') ≡ first (fault_of Positions total p) (first (time_fault t₀ before t) later)
unfolding first
zone_same total before p t t₀ p' t' t₀' later later' a b c inner same = by (dec_le p max_positions) (dec_le t max_time)
  where
    by : Dec (p ≤ max_positions) → Dec (t ≤ max_time)
        → first (fault_of Positions total p') (first (time_fault t₀' before t') later') ≡ first (fault_of Positions total p) (first (time_fault t₀ before t) later)
    by (no h) q =
        let great : max_positions < p = omega arith in
        let greater : max_positions < p' =
        elim (dec_le p max_number) [ yes l ↦ omega (arith, a, narrowed_small p l) | no l ↦ omega (arith, a, narrowed_great p (omega arith)) ] in
        rw (positions_great total p great, positions_great total p' greater)
    by (yes h) (no q) =
        let same_place : p' ≡ p = a ∙ narrowed_small p (omega arith) in
        let great : max_time < t = omega arith in
        let greater : max_time < t' = elim (dec_le t max_number) [
          | yes l ↦ omega (arith, b, narrowed_small t l)
          | no l ↦ omega (
            arith,
            b,
            narrowed_great t (omega arith),
          )
        ] in
        rw (same_place, time_great t₀ before t great, time_great t₀' before t' greater)
    by (yes h) (yes q) =
        let same_place : p' ≡ p = a ∙ narrowed_small p (omega arith) in
        let same-time : t' ≡ t = b ∙ narrowed_small t (omega arith) in
        let same-inner : t₀' ≡ t₀ = c ∙ narrowed_small t₀ (omega (arith, inner q)) in
        rw (same_place, same-time, same-inner, same h q)

-- figures, and others with narrowed positions and times whose film is judged the same
pub record Narrow (f g : Figures) : Type 0 where
  pub kind : g.kind ≡ f.kind
  pub zones : g.zones ≡ f.zones
  pub positions : g.positions ≡ map narrowed f.positions
  pub times : g.times ≡ map narrowed f.times
  pub film : (total : ℕ) → film_fault 1 g total ≡ film_fault 1 f total

module _ (f g : Figures) (n : Narrow f g) where
  abbrev place : ℕ → ℕ
  place i = get_or f.positions i 0

  abbrev speed : ℕ → ℕ
  speed i = get_or f.times i 0

  place_is : (i : ℕ) → get_or g.positions i 0 ≡ narrowed (place i)
  place_is i = ap (λ (xs : List ℕ). get_or xs i 0) n.positions ∙ get_d_narrowed f.positions i

  speed_is : (i : ℕ) → get_or g.times i 0 ≡ narrowed (speed i)
  speed_is i = ap (λ (xs : List ℕ). get_or xs i 0) n.times ∙ get_d_narrowed f.times i

  -- the first zone's time is in range once it is judged
  faults_same : (left i total before : ℕ) → (0 < i → speed 0 ≤ max_time) → zone_faults 1 left i g total before ≡ zone_faults 1 left i f total before
  unfolding zone_faults
  faults_same zero i total before h = n.film total
  faults_same (suc left) i total before h =
      zone_same total before (place i) (speed i) (speed 0) _ _ _ _ _ (place_is i) (speed_is i) (speed_is 0) (inner i h) (λ a b.
      ap₂ (λ (x y : ℕ). zone_faults 1 left (i + 1) g (total + x) y) (place_is i ∙ narrowed_small (place i) (omega arith))
      (speed_is i ∙ narrowed_small (speed i) (omega arith))
      ∙ faults_same left (i + 1) (total + place i) (speed i) (λ k. inner i h b))
    where
      inner : (i : ℕ) → (0 < i → speed 0 ≤ max_time) → speed i ≤ max_time → speed 0 ≤ max_time
      inner zero h t = t
      inner (suc i) h t = h (omega arith)

  -- THE SAME REFUSAL
  pub fault_same : record_fault 1 g ≡ record_fault 1 f
  unfolding record_fault unused_zero zeros_from
  fault_same =
      ap₂ first (ap (fault_of Kind 0) n.kind)
      (ap₂ first (ap (fault_of Zones 0) n.zones) (ap₂ first (ap (λ (t : Bool). cond t 0 wrong_zones) (ap₂ (λ (a b : Bool). a && b) places speeds)) faults))
    where
      places : all_by (λ (v : ℕ). eqb v 0) (drop g.zones g.positions) ≡ all_by (λ (v : ℕ). eqb v 0) (drop f.zones f.positions)
      places = rw (n.zones, n.positions) (unused_narrowed f.zones f.positions)

      speeds : all_by (λ (v : ℕ). eqb v 0) (drop g.zones g.times) ≡ all_by (λ (v : ℕ). eqb v 0) (drop f.zones f.times)
      speeds = rw (n.zones, n.times) (unused_narrowed f.zones f.times)

      faults : zone_faults 1 g.zones 0 g 0 max_time ≡ zone_faults 1 f.zones 0 f 0 max_time
      faults = ap (λ (z : ℕ). zone_faults 1 z 0 g 0 max_time) n.zones ∙ faults_same f.zones 0 0 max_time (λ h. absurd (omega arith))

  -- the zones of figures that are not refused
  zones_small : (left i total before : ℕ) → zone_faults 1 left i f total before ≡ 0 → (k : ℕ) → i ≤ k → k < i + left
      → (place k ≤ max_positions) × (speed k ≤ max_time)
  unfolding zone_faults
  zones_small zero i total before e k l h = absurd (omega arith)
  zones_small (suc left) i total before e k l h =
      let a = first_none (fault_of Positions total (place i)) _ e in
      let b = first_none (time_fault (speed 0) before (speed i)) _ a.1 in
      on a b (ℕ_discrete k i) (zones_small left (i + 1) (total + place i) (speed i) b.1 k)
    where
      on : (fault_of Positions total (place i) ≡ 0)
          × (first (time_fault (speed 0) before (speed i)) (zone_faults 1 left (i + 1) f (total + place i) (speed i)) ≡ 0)
          → (time_fault (speed 0) before (speed i) ≡ 0) × (zone_faults 1 left (i + 1) f (total + place i) (speed i) ≡ 0)
          → Dec (k ≡ i) → (i + 1 ≤ k → k < i + 1 + left → (place k ≤ max_positions) × (speed k ≤ max_time)) → (place k ≤ max_positions) × (speed k ≤ max_time)
      on a b (yes q) later = rw q (omega (arith, (positions_range total (place i) a.0).1), (time_range before (speed i) (speed 0) b.0).1)
      on a b (no q) later = later (omega arith) (omega arith)

  -- nor is their film refused, by the positions of all zones
  film_clear : (left i total before : ℕ) → zone_faults 1 left i f total before ≡ 0 → (all : ℕ) × (film_fault 1 f all ≡ 0)
  unfolding zone_faults
  film_clear zero i total before e = (total, e)
  film_clear (suc left) i total before e =
      let a = first_none (fault_of Positions total (place i)) _ e in
      let b = first_none (time_fault (speed 0) before (speed i)) _ a.1 in
      film_clear left (i + 1) (total + place i) (speed i) b.1

  pub accepted_film : record_fault 1 f ≡ 0 → (all : ℕ) × (film_fault 1 f all ≡ 0)
  accepted_film e = film_clear f.zones 0 0 max_time (fault_judged 1 f e).faults

  -- FIGURES THAT ARE NOT REFUSED ARE NOT NARROWED
  pub accepted_same : record_fault 1 f ≡ 0 → (g.positions ≡ f.positions) × (g.times ≡ f.times)
  accepted_same e = (
    n.positions ∙ map_same f.positions (λ i. narrowed_small (place i) (each i).0),
    n.times
        ∙ map_same f.times (λ i. narrowed_small (speed i) (each i).1),
  )
    where
      each : (i : ℕ) → (place i ≤ max_number) × (speed i ≤ max_number)
      each i = go (dec_lt i f.zones) (fault_judged 1 f e)
        where
          go : Dec (i < f.zones) → Judged 1 f → (place i ≤ max_number) × (speed i ≤ max_number)
          go (yes h) j = omega (arith, zones_small f.zones 0 0 max_time j.faults i (omega arith) (omega arith))
          go (no h) j = omega (arith, j.unused i (omega arith))

  -- they are judged alike
  pub judged_same : (record_fault 1 f ≡ 0 → g ≡ f) → judged_figures g ≡ judged_figures f
  unfolding judged_figures
  judged_same same = go (record_fault 1 f) refl
    where
      go : (k : ℕ) → record_fault 1 f ≡ k → answered (record_fault 1 g) g ≡ answered (record_fault 1 f) f
      go zero e = ap (λ (x : Figures). answered (record_fault 1 x) x) (same e)
      go (suc k) e = unfold answered in rw (fault_same, e)
