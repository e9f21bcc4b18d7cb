-- The reader never answers 13: that is the number of lent strings.
-- Assumes nothing.
use Rattle.std.specs.Prelude.{ℕ, zero, suc, ◌+◌, ◌*◌, ◌≢◌, Bool, true, false, cond, List, leb}
use Rattle.std.proofs.Common.{arith}
use Rattle.numbers.specs.Refusals.{too_short, blocks_above_positions, halves_above_positions}
use Rattle.card_field.specs.declared.Rule.{Rule}
use Rattle.card_field.specs.declared.Rule.TheVariants.{Kind, Zones, Positions, Films, Measure, Overhead}
use Rattle.card_field.specs.Ranges.{first, below, above, outside, then_above, then_below, fault_of, time_fault, room_fault, blocks_fault}
use Rattle.card.specs.Read.{refused_card, read_card}
use Rattle.card.specs.ReadLaws.{read_holds}

-- ---- one figure

abbrev Other : ℕ → Type 0
Other k = k ≢ too_short

first_other : (a b : ℕ) → Other a → Other b → Other (first a b)
unfolding first
first_other zero b p q = q
first_other (suc a) b p q = p

cond_other : (t : Bool) (k : ℕ) → Other k → Other (cond t 0 k)
cond_other true k p = λ e. omega arith
cond_other false k p = p

outside_other : (least most k v : ℕ) → Other k → Other (outside least most k v)
unfolding outside below above
outside_other least most k v p = first_other _ _ (cond_other (leb least v) k p) (cond_other (leb v most) k p)

above_other : (fault most k v : ℕ) → Other fault → Other k → Other (then_above fault most k v)
unfolding then_above above
above_other fault most k v p q = first_other fault _ p (cond_other (leb v most) k q)

below_other : (fault least k v : ℕ) → Other fault → Other k → Other (then_below fault least k v)
unfolding then_below below
below_other fault least k v p q = first_other fault _ p (cond_other (leb least v) k q)

rule_other : (u : Rule) (bound v : ℕ) → Other (fault_of u bound v)
unfolding fault_of
rule_other Kind bound v = outside_other _ _ _ v (λ e. omega arith)
rule_other Zones bound v = outside_other _ _ _ v (λ e. omega arith)
rule_other Positions bound v = above_other _ _ _ (bound + v) (outside_other _ _ _ v (λ e. omega arith)) (λ e. omega arith)
rule_other Films bound v = outside_other _ _ _ v (λ e. omega arith)
rule_other Measure bound v = outside_other _ _ _ v (λ e. omega arith)
rule_other Overhead bound v = below_other _ _ _ v (outside_other _ _ _ v (λ e. omega arith)) (λ e. omega arith)

time_other : (innermost before v : ℕ) → Other (time_fault innermost before v)
unfolding time_fault
time_other innermost before v = below_other _ _ _ _ (above_other _ _ _ v (outside_other _ _ _ v (λ e. omega arith)) (λ e. omega arith)) (λ e. omega arith)

room_other : (k : ℕ) → Other (room_fault k)
unfolding room_fault
room_other k = by (leb k 1)
  where
    by : (t : Bool) → Other (cond t blocks_above_positions halves_above_positions)
    by true = λ e. omega arith
    by false = λ e. omega arith

blocks_other : (k total sofar v : ℕ) → Other (blocks_fault k total sofar v)
unfolding blocks_fault
blocks_other k total sofar v =
    above_other _ _ _ (k * v) (above_other _ _ _ (sofar + v) (outside_other _ _ _ v (λ e. omega arith)) (λ e. omega arith)) (room_other k)

-- ---- the card

pub read_other : (k : ℕ) (s : List ℕ) → (read_card k s).verdict.number ≢ too_short
read_other k s = read_holds (λ r. Other r.verdict.number) Other (record {
  accepts = λ f e. omega arith;
  refuses = λ k at o. unfold refused_card in o;
  ends = λ e. omega arith;
  form = λ e. omega arith;
  over = λ e. omega arith;
  rule = rule_other;
  time = time_other;
  blocks = blocks_other;
}) k s
