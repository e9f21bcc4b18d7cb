use Rattle.std.proofs.Common.{sym, ◌∙◌, arith}
use Rattle.numbers.specs.Limits.{max_track}
use Rattle.maker_lines.proofs.LineWays.{within_range, row_gap, row_falls, row_far, row_track, row_fits_law}
use Rattle.maker_lines.proofs.judge_row.Goals as goal

pub returns-then-from-first : goal.returns-then-from-first
returns-then-from-first c = row_gap _ _ _ _ _ (λ e. omega arith)

pub returns-then-last-from : goal.returns-then-last-from
returns-then-last-from c = row_falls _ _ _ _ _ (omega arith) (omega arith)

pub returns-then-last : goal.returns-then-last
returns-then-last c = row_far _ _ _ _ _ c.if-from-first.false c.if-last-from.false c.if-last.true

pub returns-then-not-is_within : goal.returns-then-not-is_within
returns-then-not-is_within c =
    row_track _ _ _ _ _ c.if-from-first.false c.if-last-from.false c.if-last.false (sym c.is_within.ensures ∙ c.if-not-is_within.true)

pub overflow_cast-result-2 : goal.overflow_cast-result-2
overflow_cast-result-2 c = omega (arith, within_range max_track _ (sym c.is_within.ensures ∙ c.if-not-is_within.false))

pub returns : goal.returns
returns c = row_fits_law _ _ _ _ _ c.if-from-first.false c.if-last-from.false c.if-last.false (sym c.is_within.ensures ∙ c.if-not-is_within.false)
