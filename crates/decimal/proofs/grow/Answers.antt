use Rattle.std.proofs.Common.{◌≡◌, ◌+◌, ◌-◌, ◌*◌, min, sym, ◌∙◌, arith}
use Rattle.numbers.specs.Limits.{no_number}
use Rattle.decimal.specs.DecimalLaws.{digit_range, capped_min, grown_other, grown_capped, grown_great}
use Rattle.decimal.proofs.grow.Goals as goal

pub returns-then-not-is_digit : goal.returns-then-not-is_digit
returns-then-not-is_digit c = grown_other _ _ (sym c.is_digit.ensures ∙ c.if-not-is_digit.true)

pub returns-then-value-ge-NO_NUMBER : goal.returns-then-value-ge-NO_NUMBER
returns-then-value-ge-NO_NUMBER c =
    let d = digit_range _ (sym c.is_digit.ensures ∙ c.if-not-is_digit.false) in
    grown_great _ _ d.0 d.1 (omega arith)

pub overflow_sub-next : goal.overflow_sub-next
overflow_sub-next c = (digit_range _ (sym c.is_digit.ensures ∙ c.if-not-is_digit.false)).0

pub returns : goal.returns
returns c =
    let d = digit_range _ (sym c.is_digit.ensures ∙ c.if-not-is_digit.false) in
    let next : c.min.result ≡ min (c.args.value * 10 + (c.args.byte - 48)) no_number = omega arith in
    omega (arith, next, capped_min (c.args.value * 10 + (c.args.byte - 48)), grown_capped c.args.value c.args.byte d.0 d.1)
