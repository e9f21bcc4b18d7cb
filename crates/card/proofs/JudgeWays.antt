-- Each way that the code of the judge can take.
-- Assumes nothing.
use Prim.Native.Nat.{ℕ, zero, suc, ◌+◌, ◌-◌, ◌≤◌, ◌<◌}
use mathlib.Core.Path.{◌≡◌, refl, ap, ◌∙◌}
use mathlib.Core.Bool.{Bool, true, false, cond, ◌&&◌}
use mathlib.Core.List.{List, [], ◌∷◌}
use Rattle.std.specs.List.{list_all}
use borrow.Rule.Slice.PartMut.{mid_of}
use native.Mathlib.Omega.{arith}
use lib.ListN.{length, get_or, take, drop}
use lib.Seq.{take-length}
use Rattle.std.proofs.Common.{length-drop}
use lib.Dec.{eqb}
use Rattle.card.specs.declared.Figures.{Figures}
use Rattle.card_field.specs.declared.Rule.TheVariants.{Positions}
use Rattle.laws.specs.Runs.{all_by}
use Rattle.numbers.specs.Refusals.{wrong_zones}
use Rattle.card.specs.Card.{zeros, film_fault, zone_faults, fault_with, zeros_from}
use Rattle.std.specs.Prelude.{Result, Ok, Err, IsErrAnd}
use Rattle.numbers.specs.declared.refusals.Refusal.{Refusal}
use Rattle.numbers.specs.Numbered.{number_of}
use Rattle.card_field.specs.Ranges.{fault_of, time_fault}
use Rattle.card_field.specs.Row.{row_fault}
use Rattle.card_field.specs.RangeLaws.{first_stops, first_goes}

-- ---- the zones

module _ (k : ℕ) (f : Figures) (i total before : ℕ) where
  pub zones_done : (left : ℕ) → left ≤ 0 → film_fault k f total ≡ zone_faults k left i f total before
  unfolding zone_faults
  zones_done zero h = refl
  zones_done (suc left) h = absurd (omega arith)

  pub zones_few : (left : ℕ) → 0 < left → {l : ℕ} → l ≡ fault_of Positions total (get_or f.positions i 0) → (l ≡ 0 → ⊥) → l ≡ zone_faults k left i f total before
  unfolding zone_faults
  zones_few zero p e n = absurd (omega arith)
  zones_few (suc left) p e n = first_stops e _ n

  pub zones_slow : (left : ℕ) → 0 < left → {j l : ℕ} → j ≡ fault_of Positions total (get_or f.positions i 0) → j ≡ 0
      → l ≡ time_fault (get_or f.times 0 0) before (get_or f.times i 0) → (l ≡ 0 → ⊥) → l ≡ zone_faults k left i f total before
  unfolding zone_faults
  zones_slow zero p d z e n = absurd (omega arith)
  zones_slow (suc left) p d z e n = first_stops e _ n ∙ first_goes d _ z

  pub zones_more : (left fewer : ℕ) → left ≡ fewer + 1 → {j l : ℕ} → j ≡ fault_of Positions total (get_or f.positions i 0) → j ≡ 0
      → l ≡ time_fault (get_or f.times 0 0) before (get_or f.times i 0) → l ≡ 0
      → zone_faults k fewer (i + 1) f (total + get_or f.positions i 0) (get_or f.times i 0) ≡ zone_faults k left i f total before
  unfolding zone_faults
  zones_more zero fewer h d z e y = absurd (omega arith)
  zones_more (suc left) fewer h d z e y =
      let q : fewer ≡ left = omega arith in
      ap (λ (x : ℕ). zone_faults k x (i + 1) f (total + get_or f.positions i 0) (get_or f.times i 0)) q ∙ first_goes e _ y ∙ first_goes d _ z

-- a zone's refusal that is handed on
pub handed_zone : (k : ℕ) (f : Figures) (R : Result ℕ Refusal) (r : Refusal) → IsErrAnd R (λ e. e ≡ r) → fault_with k f R ≡ number_of r
unfolding fault_with
handed_zone k f (Ok x) r h = absurd h
handed_zone k f (Err e) r h = ap number_of h

-- ---- numbers in a row

module _ {A : Type 0} (judge : A → ℕ → ℕ) (after : A → ℕ → A) (x : A) (i : ℕ) (vs : List ℕ) where
  pub row_done : (left : ℕ) → left ≤ 0 → 0 ≡ row_fault judge after left x i vs
  unfolding row_fault
  row_done zero h = refl
  row_done (suc left) h = absurd (omega arith)

  pub row_stops : (left : ℕ) → 0 < left → {l : ℕ} → l ≡ judge x (get_or vs i 0) → (l ≡ 0 → ⊥) → l ≡ row_fault judge after left x i vs
  unfolding row_fault
  row_stops zero p e n = absurd (omega arith)
  row_stops (suc left) p e n = first_stops e _ n

  pub row_more : (left fewer : ℕ) → left ≡ fewer + 1 → {l : ℕ} → l ≡ judge x (get_or vs i 0) → l ≡ 0
      → row_fault judge after fewer (after x (get_or vs i 0)) (i + 1) vs ≡ row_fault judge after left x i vs
  unfolding row_fault
  row_more zero fewer h e z = absurd (omega arith)
  row_more (suc left) fewer h e z =
      let q : fewer ≡ left = omega arith in
      ap (λ (n : ℕ). row_fault judge after n (after x (get_or vs i 0)) (i + 1) vs) q ∙ first_goes e _ z

-- ---- unused entries

-- the test of the code is that of `zeros`
pub all_zeros : (vs : List ℕ) → list_all (λ v. eqb v 0) vs ≡ all_by (λ v. eqb v 0) vs
unfolding all_by
all_zeros [] = refl
all_zeros (v ∷ vs) = ap (λ (t : Bool). eqb v 0 && t) (all_zeros vs)

-- the entries of a list from the i-th on, lent
pub zeros_rest : (i n : ℕ) (vs : List ℕ) → n ≡ length vs - i → zeros 0 (mid_of i n vs) ≡ zeros i vs
zeros_rest i n vs h =
    let all : n ≡ length (drop i vs) = omega (arith, length-drop i vs) in
    ap (λ (ws : List ℕ). zeros 0 ws) (ap (λ (k : ℕ). take k (drop i vs)) all ∙ take-length (drop i vs))

-- the unused zones: their positions, then their times
module _ (i : ℕ) (ps ts : List ℕ) where
  pub unused_clear : zeros i ps ≡ true → zeros i ts ≡ true → ◌≡◌ {A = ℕ} 0 (cond (zeros_from i ps ts) 0 wrong_zones)
  unfolding zeros_from
  unused_clear p t = rw (p, t)

  pub unused_positions : zeros i ps ≡ false → ◌≡◌ {A = ℕ} wrong_zones (cond (zeros_from i ps ts) 0 wrong_zones)
  unfolding zeros_from
  unused_positions p = rw p

  pub unused_times : zeros i ps ≡ true → zeros i ts ≡ false → ◌≡◌ {A = ℕ} wrong_zones (cond (zeros_from i ps ts) 0 wrong_zones)
  unfolding zeros_from
  unused_times p t = rw (p, t)
