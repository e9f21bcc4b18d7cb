use Rattle.std.proofs.Common.{refl, sym, ◌∙◌, arith}
use Rattle.numbers.specs.Limits.{max_time}
use Rattle.numbers.specs.Refusals.{wrong_time}
use Rattle.numbers.specs.Numbered.{number_some, handed_on, refused_is, accepted_is}
use Rattle.card_field.specs.RangeLaws.{outside_range, thrice_fits}
use Rattle.card_field.proofs.FieldWays.{time_outside, time_rises, time_half_dead, time_good}
use Rattle.card_field.proofs.fault_of_time.Goals as goal

pub returns-in_err-outside : goal.returns-in_err-outside
returns-in_err-outside c =
    handed_on _ _ c.from_residual.ensures.1
    ∙ time_outside _ _ _ (refused_is c.in_err-outside.was c.outside.ensures) (number_some _)

pub returns-then-before-v : goal.returns-then-before-v
returns-then-before-v c = time_rises _ _ _ (accepted_is c.in_ok-outside.was c.outside.ensures) refl c.if-before-v.true

pub overflow_mul-v : goal.overflow_mul-v
overflow_mul-v c =
    omega (arith, thrice_fits c.args.v (outside_range 1 max_time wrong_time _ (omega arith) (sym (accepted_is c.in_ok-outside.was c.outside.ensures))).1)

pub returns-then-v-innermost : goal.returns-then-v-innermost
returns-then-v-innermost c =
    time_half_dead _ _ _ (accepted_is c.in_ok-outside.was c.outside.ensures) refl c.if-before-v.false c.if-v-innermost.true

pub returns : goal.returns
returns c = time_good _ _ _ (accepted_is c.in_ok-outside.was c.outside.ensures) refl c.if-before-v.false c.if-v-innermost.false
