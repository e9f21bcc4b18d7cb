-- A hop or a return past its range is refused, and so is 0: with it in their place the judge answers the same.
-- Assumes nothing.
use Prim.Native.Nat.{ℕ, ◌≤◌, ◌<◌}
use mathlib.Core.Path.{◌≡◌, sym, ap₂, ◌∙◌}
use mathlib.Core.Bool.{true}
use native.Mathlib.Omega.{arith}
use native.Mathlib.Decide.{dec_le}
use borrow.Author.Tests.{le-leb, lt-leb, lt-ltb, le-ltb}
use Rattle.numbers.specs.Limits.{straight_kind, max_move, table_length}
use Rattle.card_field.specs.declared.Rule.TheVariants.{Measure}
use Rattle.card_field.specs.Ranges.{first, below, above, outside, fault_of}
use Rattle.card_field.specs.RangeLaws.{first_none, measure_range}
use Rattle.card_table.specs.Table.{straight, is_line, straight_fault, table_fault}
use Rattle.card_table.specs.TableLaws.{straight_at, at_line}
use Rattle.card_table.specs.TableFaults.{straight_back, straight_hop}
use Rattle.maker.specs.Fitting.{move_in}

-- ---- one of both

pub move_kept : (v : ℕ) → v ≤ max_move → move_in v ≡ v
unfolding move_in
move_kept v h = rw (le-ltb max_move v h)

pub move_lost : (v : ℕ) → max_move < v → move_in v ≡ 0
unfolding move_in
move_lost v h = rw (lt-ltb max_move v h)

pub move_small : (v : ℕ) → move_in v ≤ max_move
move_small v = elim (dec_le v max_move) [ yes h ↦ omega (arith, move_kept v h) | no h ↦ omega (arith, move_lost v (omega arith)) ]

move_fault : (v : ℕ) → fault_of Measure max_move (move_in v) ≡ fault_of Measure max_move v
move_fault v = elim (dec_le v max_move) [
  | yes h ↦ rw (move_kept v h)
  | no h ↦ rw (move_lost v (omega arith)) (great (omega arith))
]
  where
    great : max_move < v → fault_of Measure max_move 0 ≡ fault_of Measure max_move v
    great h = unfold fault_of outside below above first in rw (le-leb 1 v (omega arith), lt-leb v max_move h)

-- ---- their table

-- it is refused by hop and return alone
moves_fault : (hop ret : ℕ) → straight_fault (straight hop ret) ≡ first (fault_of Measure max_move hop) (first (fault_of Measure max_move ret) 0)
unfolding straight_fault
moves_fault hop ret = rw (straight_hop hop ret, straight_back hop ret, line)
  where
    line : is_line table_length 0 (straight hop ret) hop ret ≡ true
    line = at_line table_length 0 (straight hop ret) hop ret (λ k l h. straight_at hop ret k (omega arith))

pub table_same : (hop ret : ℕ) → table_fault straight_kind (straight (move_in hop) (move_in ret)) ≡ table_fault straight_kind (straight hop ret)
unfolding table_fault
table_same hop ret = moves_fault (move_in hop) (move_in ret) ∙ ap₂ (λ (a b : ℕ). first a (first b 0)) (move_fault hop) (move_fault ret)
    ∙ sym (moves_fault hop ret)

-- those of a table that is not refused stay
pub moves_kept : (hop ret : ℕ) → table_fault straight_kind (straight hop ret) ≡ 0 → (move_in hop ≡ hop) × (move_in ret ≡ ret)
unfolding table_fault
moves_kept hop ret e =
    let h = first_none (fault_of Measure max_move hop) _ (sym (moves_fault hop ret) ∙ e) in
    let b = first_none (fault_of Measure max_move ret) 0 h.1 in
    (move_kept hop (measure_range max_move hop h.0).1, move_kept ret (measure_range max_move ret b.0).1)
