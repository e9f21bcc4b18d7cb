use Rattle.std.proofs.Common.{sym, ◌∙◌, arith}
use Rattle.decimal.proofs.DigitWays.{reading_more, reading_stop, reading_end}
use Rattle.decimal.proofs.read_digits.Goals as goal

pub loop-at-preserved : goal.loop-at-preserved
loop-at-preserved c =
    let l = c.loop-at in (
      omega (arith, l.invariant.0),
      reading_more _ _ _ _ l.invariant.1 (omega arith) (sym c.is_digit.ensures ∙ c.if-not-is_digit.false) _ c.grow-value.ensures,
    )

pub returns-then-not-is_digit : goal.returns-then-not-is_digit
returns-then-not-is_digit c =
    let l = c.loop-at in rw l.invariant.0 (reading_stop _ _ _ _ l.invariant.1 (omega arith) (sym c.is_digit.ensures ∙ c.if-not-is_digit.true))

pub returns-after-loop-at : goal.returns-after-loop-at
returns-after-loop-at c =
    let l = c.loop-at in rw l.invariant.0 (reading_end _ _ _ _ l.invariant.1 (omega arith))
