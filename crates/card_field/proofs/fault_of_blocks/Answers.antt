use Rattle.std.proofs.Common.{◌≡◌, ℕ, ◌≤◌, refl, sym, ◌∙◌, arith}
use Rattle.numbers.specs.Limits.{min_blocks, max_blocks}
use Rattle.numbers.specs.Refusals.{wrong_blocks}
use Rattle.numbers.specs.Numbered.{number_some, handed_on, refused_is, accepted_is}
use Rattle.card_field.specs.Ranges.{outside}
use Rattle.card_field.specs.RangeLaws.{outside_range}
use Rattle.card_field.proofs.FieldWays.{blocks_outside, blocks_over, blocks_no_room, blocks_good}
use Rattle.card_field.proofs.fault_of_blocks.Goals as goal

-- N is in its range
ranged : (v : ℕ) → 0 ≡ outside min_blocks max_blocks wrong_blocks v → (min_blocks ≤ v) × (v ≤ max_blocks)
ranged v e = outside_range min_blocks max_blocks wrong_blocks v (omega arith) (sym e)

pub returns-in_err-outside : goal.returns-in_err-outside
returns-in_err-outside c =
    handed_on _ _ c.from_residual.ensures.1
    ∙ blocks_outside _ _ _ _ (refused_is c.in_err-outside.was c.outside.ensures) (number_some _)

pub overflow_sub-v : goal.overflow_sub-v
overflow_sub-v c = omega (arith, ranged _ (accepted_is c.in_ok-outside.was c.outside.ensures))

pub returns-then-v-sofar : goal.returns-then-v-sofar
returns-then-v-sofar c =
    let e = accepted_is c.in_ok-outside.was c.outside.ensures in
    let r = ranged _ e in
    blocks_over _ _ _ _ e refl (omega arith)

pub nonzero_div-total : goal.nonzero_div-total
nonzero_div-total c = omega (arith, ranged _ (accepted_is c.in_ok-outside.was c.outside.ensures))

pub returns-then-total-sofar : goal.returns-then-total-sofar
returns-then-total-sofar c =
    let e = accepted_is c.in_ok-outside.was c.outside.ensures in
    let r = ranged _ e in
    c.room_fault.ensures ∙ blocks_no_room _ _ _ _ e refl (omega arith) (omega arith) c.if-total-sofar.true

pub returns : goal.returns
returns c =
    let e = accepted_is c.in_ok-outside.was c.outside.ensures in
    let r = ranged _ e in
    blocks_good _ _ _ _ e refl (omega arith) (omega arith) c.if-total-sofar.false
