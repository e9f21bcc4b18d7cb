-- The judge of a table refuses nothing just where the table is legal.
-- Assumes nothing.
use Rattle.std.specs.Prelude.{ℕ, zero, suc, ◌+◌, ◌≤◌, ◌<◌, ◌≡◌, refl, ◌⊎◌, List, Bool, true, false, cond, length, get_or, leb}
use Rattle.std.proofs.Common.{sym, ◌∙◌, subst, inl, inr, arith, ext_get_or, eq-eqb}
use Rattle.std.proofs.Math.Logic.{by_cases}
use Rattle.std.proofs.Math.Decide.{ℕ_discrete}
use Rattle.numbers.specs.Limits.{straight_kind, measured_kind, max_move, table_length, max_overhead, max_streams}
use Rattle.numbers.specs.Refusals.{wrong_measure, wrong_overhead}
use Rattle.card_field.specs.declared.Rule.TheVariants.{Measure, Overhead}
use Rattle.card_field.specs.Ranges.{first, below, above, outside, then_below, fault_of}
use Rattle.card_field.specs.Row.{row_fault}
use Rattle.card_field.specs.RangeLaws.{first_none, first_clear, measure_range, measure_legal, overhead_range, overhead_legal}
use Rattle.card_table.specs.Table.{straight, hop_in, back_in, is_line, Straight, Measured, straight_fault, last_entry, measured_fault, table_fault}
use Rattle.card_table.specs.TableLaws.{straight_long, straight_at, line_at, at_line, NoFall, no_fall_rises}

-- a number that is 0 where P holds, and else the refusal k
abbrev pub Judges : ℕ → ℕ → Type 0 → Type 0
Judges r k P = ((r ≡ 0) × P) ⊎ ((r ≡ k) × (P → ⊥))

-- two that judge the same are the same
pub judges_same : {r s k : ℕ} {P Q : Type 0} → Judges r k P → Judges s k Q → (P → Q) → (Q → P) → r ≡ s
judges_same (inl (e, p)) (inl (d, q)) there back = e ∙ sym d
judges_same (inl (e, p)) (inr (d, n)) there back = absurd (n (there p))
judges_same (inr (e, n)) (inl (d, q)) there back = absurd (n (back q))
judges_same (inr (e, n)) (inr (d, m)) there back = e ∙ sym d

-- ---- kind 2

-- the judge of `left` entries from the k-th on; before is the one before
abbrev entries_fault : ℕ → ℕ → List ℕ → ℕ → ℕ
entries_fault left k t before = row_fault (fault_of Overhead) last_entry left before k t

-- they are in range, none below the one before
record From (left k : ℕ) (t : List ℕ) (before : ℕ) : Type 0 where
  range : (j : ℕ) → k ≤ j → j < k + left → (1 ≤ get_or t j 0) × (get_or t j 0 ≤ max_overhead)
  start : 0 < left → before ≤ get_or t k 0
  rising : (j : ℕ) → k ≤ j → suc j < k + left → get_or t j 0 ≤ get_or t (suc j) 0

fault_from : (left k : ℕ) (t : List ℕ) (before : ℕ) → entries_fault left k t before ≡ 0 → From left k t before
unfolding row_fault
fault_from zero k t before e = record { range = λ j l h. absurd (omega arith); start = λ h. absurd (omega arith); rising = λ j l h. absurd (omega arith) }
fault_from (suc left) k t before e =
    let p = first_none (fault_of Overhead before (get_or t k 0)) _ e in
    let here = overhead_range before (get_or t k 0) p.0 in
    let later = fault_from left (k + 1) t (get_or t k 0) p.1 in
    let next : k + 1 ≡ suc k = omega arith in
    record {
      range = λ j l h. by_cases (ℕ_discrete k j) (λ n. subst (λ (i : ℕ). (1 ≤ get_or t i 0) × (get_or t i 0 ≤ max_overhead)) n (here.0, here.1))
          (λ n. later.range j (omega arith) (omega arith));
      start = λ h. here.2;
      rising = λ j l h. by_cases (ℕ_discrete k j)
          (λ n. subst (λ (i : ℕ). get_or t i 0 ≤ get_or t (suc i) 0) n (rw (sym next) (later.start (omega arith))))
          (λ n. later.rising j (omega arith) (omega arith));
    }

from_fault : (left k : ℕ) (t : List ℕ) (before : ℕ) → From left k t before → entries_fault left k t before ≡ 0
unfolding row_fault
from_fault zero k t before l = refl
from_fault (suc left) k t before l =
    let here = l.range k (omega arith) (omega arith) in
    let next : k + 1 ≡ suc k = omega arith in
    first_clear (overhead_legal before (get_or t k 0) here.0 here.1 (l.start (omega arith)))
    (from_fault left (k + 1) t (get_or t k 0) (record {
      range = λ j m h. l.range j (omega arith) (omega arith);
      start = λ h. rw next (l.rising k (omega arith) (omega arith));
      rising = λ j m h. l.rising j (omega arith) (omega arith);
    }))

-- a measured table that is not refused is legal, and back
pub fault_measured : (t : List ℕ) → measured_fault t ≡ 0 → Measured t
unfolding measured_fault
fault_measured t e =
    let l = fault_from table_length 0 t 0 e in
    record { range = λ k h. l.range k (omega arith) (omega arith); rising = λ k h. l.rising k (omega arith) (omega arith) }

pub measured_fault_law : (t : List ℕ) → Measured t → measured_fault t ≡ 0
unfolding measured_fault
measured_fault_law t m = from_fault table_length 0 t 0 (record {
  range = λ j l h. m.range j (omega arith);
  start = λ h. omega arith;
  rising = λ j l h. m.rising j (omega arith);
})

-- its refusal is 25
abbrev Either : ℕ → ℕ → Type 0
Either k j = (j ≡ 0) ⊎ (j ≡ k)

first_either : (k i j : ℕ) → Either k i → Either k j → Either k (first i j)
unfolding first
first_either k zero j p q = q
first_either k (suc i) j p q = p

cond_either : (k : ℕ) (t : Bool) → Either k (cond t 0 k)
cond_either k true = inl refl
cond_either k false = inr refl

overhead_number : (before v : ℕ) → Either wrong_overhead (fault_of Overhead before v)
unfolding fault_of then_below outside below above
overhead_number before v =
    first_either wrong_overhead _ _ (first_either wrong_overhead _ _ (cond_either wrong_overhead (leb 1 v)) (cond_either wrong_overhead (leb v max_overhead)))
    (cond_either wrong_overhead (leb before v))

measured_number : (left k : ℕ) (t : List ℕ) (before : ℕ) → Either wrong_overhead (entries_fault left k t before)
unfolding row_fault
measured_number zero k t before = inl refl
measured_number (suc left) k t before =
    first_either wrong_overhead _ _ (overhead_number before (get_or t k 0)) (measured_number left (k + 1) t (get_or t k 0))

pub measured_judges : (t : List ℕ) → Judges (measured_fault t) wrong_overhead (Measured t)
unfolding measured_fault
measured_judges t = by (measured_number table_length 0 t 0)
  where
    by : Either wrong_overhead (measured_fault t) → Judges (measured_fault t) wrong_overhead (Measured t)
    by (inl e) = inl (e, fault_measured t e)
    by (inr e) = inr (e, λ m. omega (arith, measured_fault_law t m))

-- a table that does not fall is legal where its ends are in range
pub ends_measured : (t : List ℕ) → 1 ≤ get_or t 0 0 → get_or t max_streams 0 ≤ max_overhead → NoFall t → Measured t
ends_measured t a z n =
    let r = no_fall_rises t n in
    record { range = λ k h. (omega (arith, r 0 k (omega arith) h), omega (arith, r k max_streams (omega arith) (omega arith))); rising = n }

-- ---- kind 1

-- a table of kind 1 that is not refused is that of its hop and its return, and legal; and back
module _ (t : List ℕ) (w : length t ≡ table_length) (e : straight_fault t ≡ 0) where
  moves_clear : (fault_of Measure max_move (hop_in t) ≡ 0) × (fault_of Measure max_move (back_in t) ≡ 0)
      × (cond (is_line table_length 0 t (hop_in t) (back_in t)) 0 wrong_measure ≡ 0)
  unfolding straight_fault
  moves_clear =
      let h = first_none (fault_of Measure max_move (hop_in t)) _ e in
      let b = first_none (fault_of Measure max_move (back_in t)) _ h.1 in
      (h.0, b.0, b.1)

  pub straight_is : t ≡ straight (hop_in t) (back_in t)
  straight_is = ext_get_or 0 t (straight (hop_in t) (back_in t)) (w ∙ sym (straight_long (hop_in t) (back_in t)))
      (λ k l. line_at table_length 0 t (hop_in t) (back_in t) passed k (omega arith) (omega arith) ∙ sym (straight_at (hop_in t) (back_in t) k (omega arith)))
    where
      -- no refusal by 10
      clear : (x : Bool) → ◌≡◌ {A = ℕ} (cond x 0 wrong_measure) 0 → x ≡ true
      clear true e = refl
      clear false e = absurd (omega arith)

      passed : is_line table_length 0 t (hop_in t) (back_in t) ≡ true
      passed = clear (is_line table_length 0 t (hop_in t) (back_in t)) moves_clear.2

  pub fault_straight : Straight t
  fault_straight = record {
    hop = hop_in t;
    back = back_in t;
    hops = measure_range max_move (hop_in t) moves_clear.0;
    backs = measure_range max_move (back_in t) moves_clear.1;
    same = straight_is;
  }

-- the hop and the return of their table are these
pub straight_back : (hop back : ℕ) → back_in (straight hop back) ≡ back
straight_back hop back = omega (arith, straight_at hop back 0 (omega arith))

pub straight_hop : (hop back : ℕ) → hop_in (straight hop back) ≡ hop
straight_hop hop back = omega (arith, straight_at hop back 0 (omega arith), straight_at hop back 1 (omega arith))

pub straight_fault_law : (t : List ℕ) → Straight t → straight_fault t ≡ 0
unfolding straight_fault
straight_fault_law t s = rw (s.same, straight_hop s.hop s.back, straight_back s.hop s.back)
    (first_clear (measure_legal max_move s.hop s.hops.0 s.hops.1)
    (first_clear (measure_legal max_move s.back s.backs.0 s.backs.1) (rw passed)))
  where
    passed : is_line table_length 0 (straight s.hop s.back) s.hop s.back ≡ true
    passed = at_line table_length 0 (straight s.hop s.back) s.hop s.back (λ k l h. straight_at s.hop s.back k (omega arith))

-- ---- by the kind

-- a table that is not refused is legal, and back
pub record TableLegal (kind : ℕ) (t : List ℕ) : Type 0 where
  pub straight : kind ≡ straight_kind → Straight t
  pub measured : kind ≡ measured_kind → Measured t

pub fault_table : (kind : ℕ) (t : List ℕ) → length t ≡ table_length → table_fault kind t ≡ 0 → TableLegal kind t
unfolding table_fault
fault_table kind t w e = record { straight = λ k. fault_straight t w (rw (eq-eqb kind straight_kind k) at e); measured = λ k. fault_measured t (rw k at e) }

pub table_fault_law : (kind : ℕ) (t : List ℕ) → (kind ≡ straight_kind) ⊎ (kind ≡ measured_kind) → TableLegal kind t → table_fault kind t ≡ 0
unfolding table_fault
table_fault_law kind t (inl e) l = rw e (straight_fault_law t (l.straight e))
table_fault_law kind t (inr e) l = rw e (measured_fault_law t (l.measured e))
