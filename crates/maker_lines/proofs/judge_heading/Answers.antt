use Rattle.std.proofs.Common.{sym, ◌∙◌, arith}
use Rattle.numbers.specs.Limits.{max_turns, max_switch, max_heads, max_block}
use Rattle.maker_lines.proofs.LineWays.{within_range, heading_turns, heading_switch, heading_heads, heading_block, heading_fits_law}
use Rattle.maker_lines.proofs.judge_heading.Goals as goal

pub returns-then-not-is_within : goal.returns-then-not-is_within
returns-then-not-is_within c = heading_turns _ _ _ _ _ (sym c.is_within.ensures ∙ c.if-not-is_within.true)

pub returns-then-not-is_within-2 : goal.returns-then-not-is_within-2
returns-then-not-is_within-2 c =
    heading_switch _ _ _ _ _ (sym c.is_within.ensures ∙ c.if-not-is_within.false) (sym c.is_within-2.ensures ∙ c.if-not-is_within-2.true)

pub returns-then-not-is_within-3 : goal.returns-then-not-is_within-3
returns-then-not-is_within-3 c =
    heading_heads _ _ _ _ _ (sym c.is_within.ensures ∙ c.if-not-is_within.false) (sym c.is_within-2.ensures ∙ c.if-not-is_within-2.false)
    (sym c.is_within-3.ensures ∙ c.if-not-is_within-3.true)

pub returns-then-not-is_within-4 : goal.returns-then-not-is_within-4
returns-then-not-is_within-4 c =
    heading_block _ _ _ _ _ (sym c.is_within.ensures ∙ c.if-not-is_within.false) (sym c.is_within-2.ensures ∙ c.if-not-is_within-2.false)
    (sym c.is_within-3.ensures ∙ c.if-not-is_within-3.false)
    (sym c.is_within-4.ensures ∙ c.if-not-is_within-4.true)

pub overflow_cast-drive : goal.overflow_cast-drive
overflow_cast-drive c = omega (arith, within_range max_turns _ (sym c.is_within.ensures ∙ c.if-not-is_within.false))

pub overflow_cast-drive-2 : goal.overflow_cast-drive-2
overflow_cast-drive-2 c = omega (arith, within_range max_switch _ (sym c.is_within-2.ensures ∙ c.if-not-is_within-2.false))

pub overflow_cast-drive-3 : goal.overflow_cast-drive-3
overflow_cast-drive-3 c = omega (arith, within_range max_heads _ (sym c.is_within-3.ensures ∙ c.if-not-is_within-3.false))

pub overflow_cast-drive-4 : goal.overflow_cast-drive-4
overflow_cast-drive-4 c = omega (arith, within_range max_block _ (sym c.is_within-4.ensures ∙ c.if-not-is_within-4.false))

pub returns : goal.returns
returns c =
    heading_fits_law _ _ _ _ _ (sym c.is_within.ensures ∙ c.if-not-is_within.false) (sym c.is_within-2.ensures ∙ c.if-not-is_within-2.false)
    (sym c.is_within-3.ensures ∙ c.if-not-is_within-3.false)
    (sym c.is_within-4.ensures ∙ c.if-not-is_within-4.false)
