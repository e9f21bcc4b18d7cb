use Rattle.std.proofs.Common.{◌∙◌}
use Rattle.maker_lines.proofs.LineWays.{word_none, word_out, word_wrong, word_right}
use Rattle.maker_lines.proofs.read_word.Goals as goal

pub returns-in_err-value : goal.returns-in_err-value
returns-in_err-value c = c.from_residual.ensures ∙ word_none _ _ _ c.read_number.ensures c.in_err-value.was

pub returns-then-text-next : goal.returns-then-text-next
returns-then-text-next c = word_out _ _ _ c.read_number.ensures c.in_ok-value.was c.if-text-next.true

pub returns-then-text-next-2 : goal.returns-then-text-next-2
returns-then-text-next-2 c = word_wrong _ _ _ c.read_number.ensures c.in_ok-value.was c.if-text-next.false c.if-text-next-2.true

pub returns : goal.returns
returns c = word_right _ _ _ c.read_number.ensures c.in_ok-value.was c.if-text-next.false c.if-text-next-2.false
