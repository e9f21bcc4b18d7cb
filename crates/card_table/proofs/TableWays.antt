-- Each way that the code of a table can take.
-- Assumes nothing.
use Prim.Native.Nat.{ℕ, suc, ◌+◌, ◌*◌, ◌≤◌, ◌<◌}
use mathlib.Core.Path.{◌≡◌, refl, sym, ◌∙◌, subst}
use mathlib.Core.Logic.{inr, by_cases}
use mathlib.Core.List.{List}
use mathlib.Core.Bool.{Bool, true, false, cond}
use native.Mathlib.Omega.{arith}
use native.Mathlib.Nat.{mul-le-mul}
use native.Mathlib.Decide.{ℕ_discrete}
use lib.ListN.{length, get_or, set, length-set}
use borrow.Author.Tests.{eq-eqb, ne_eqb}
use lib.Seq.{ext_get_or, get_or-set_same, get_or-set_other}
use Rattle.numbers.specs.Limits.{straight_kind, max_move, table_length, max_overhead, max_streams}
use Rattle.numbers.specs.Refusals.{wrong_measure, wrong_overhead}
use Rattle.card_table.specs.Table.{straight, is_line, Measured, straight_fault, measured_fault, table_fault}
use Rattle.card_table.specs.TableLaws.{straight_long, straight_at, line_at, at_line, NoFall}
use Rattle.card_table.specs.TableFaults.{Judges, judges_same, measured_judges, ends_measured}

-- the overhead of k blocks and one hop more are numbers of 32 bits
pub line_fits : (hop back k : ℕ) → hop ≤ max_move → back ≤ max_move → k < table_length → hop * k + back + hop ≤ max_overhead + max_move
line_fits hop back k h b l =
    let few : k ≤ max_streams = omega arith in
    let most : hop * k ≤ max_move * max_streams = mul-le-mul h few in
    omega arith

-- the first k entries are those of hop and return
pub record Filled (hop back : ℕ) (table : List ℕ) (value k : ℕ) : Type 0 where
  pub few : k ≤ table_length
  pub next : value ≡ hop * k + back
  pub long : length table ≡ table_length
  pub on : (i : ℕ) → i < k → get_or table i 0 ≡ hop * i + back

module _ (hop back : ℕ) (table : List ℕ) (value k : ℕ) (f : Filled hop back table value k) where
  pub filled_next : k < table_length → Filled hop back (set table k value) (value + hop) (k + 1)
  filled_next h = record {
    few = omega arith;
    next = omega (arith, f.next);
    long = length-set table k value ∙ f.long;
    on = λ i l. by_cases (ℕ_discrete k i)
        (λ e. subst (λ (j : ℕ). get_or (set table k value) j 0 ≡ hop * j + back) e (get_or-set_same table k value 0 (omega (arith, f.long)) ∙ f.next))
        (λ n. get_or-set_other table k i value 0 (λ e. n (sym e)) ∙ f.on i (omega arith));
  }

  pub filled_all : table_length ≤ k → table ≡ straight hop back
  filled_all h = ext_get_or 0 table (straight hop back) (f.long ∙ sym (straight_long hop back))
      (λ i l. f.on i (omega (arith, f.long)) ∙ sym (straight_at hop back i (omega (arith, f.long))))

-- ---- the entries of hop and return, one by one

module _ (t : List ℕ) (hop back : ℕ) where
  pub line_broken : (k : ℕ) → k < table_length → (get_or t k 0 ≡ hop * k + back → ⊥) → wrong_measure ≡ cond (is_line table_length 0 t hop back) 0 wrong_measure
  line_broken k h n = by (is_line table_length 0 t hop back) refl
    where
      by : (x : Bool) → is_line table_length 0 t hop back ≡ x → ◌≡◌ {A = ℕ} wrong_measure (cond x 0 wrong_measure)
      by true e = absurd (n (line_at table_length 0 t hop back e k (omega arith) (omega arith)))
      by false e = refl

  pub line_whole : ((k : ℕ) → k < table_length → get_or t k 0 ≡ hop * k + back) → ◌≡◌ {A = ℕ} 0 (cond (is_line table_length 0 t hop back) 0 wrong_measure)
  line_whole h = rw (at_line table_length 0 t hop back (λ k l u. h k (omega arith)))

-- ---- a table of kind 2

module _ (t : List ℕ) where
  pub measured_zero : get_or t 0 0 ≡ 0 → wrong_overhead ≡ measured_fault t
  measured_zero e = judges_same (inr (refl, λ (m : Measured t). omega (arith, m.range 0 (omega arith)))) (measured_judges t) (λ m. m) (λ m. m)

  pub measured_high : max_overhead < get_or t max_streams 0 → wrong_overhead ≡ measured_fault t
  measured_high h = judges_same (inr (refl, λ (m : Measured t). omega (arith, m.range max_streams (omega arith)))) (measured_judges t) (λ m. m) (λ m. m)

  pub measured_fall : (get_or t 0 0 ≡ 0 → ⊥) → get_or t max_streams 0 ≤ max_overhead → {number : ℕ} → Judges number wrong_overhead (NoFall t)
      → number ≡ measured_fault t
  measured_fall a z j = judges_same j (measured_judges t) (ends_measured t (omega arith) z) (λ m. m.rising)

-- ---- by the kind

module _ (kind : ℕ) (t : List ℕ) where
  pub table_straight : kind ≡ straight_kind → straight_fault t ≡ table_fault kind t
  unfolding table_fault
  table_straight e = rw (eq-eqb kind straight_kind e)

  pub table_measured : (kind ≡ straight_kind → ⊥) → measured_fault t ≡ table_fault kind t
  unfolding table_fault
  table_measured n = rw (ne_eqb kind straight_kind n)
