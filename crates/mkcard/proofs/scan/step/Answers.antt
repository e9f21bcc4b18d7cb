-- Each way that a byte of a text can take.
use Rattle.std.proofs.Common.{◌∙◌, rules}
use Rattle.mkcard.proofs.WordWays.{step_last, step_line, step_comment, step_hash, step_blank, step_word, blank_key, blank_none}
use Rattle.mkcard.proofs.scan.step.Goals as goal

pub returns-then-line-ge-MAX_LINE : goal.returns-then-line-ge-MAX_LINE
returns-then-line-ge-MAX_LINE c = step_last _ _ c.end_word-next.result c.end_word-next.ensures c.if-byte-eq10.true c.if-line-ge-MAX_LINE.true

pub returns-then-byte-eq10 : goal.returns-then-byte-eq10
returns-then-byte-eq10 c = step_line _ _ c.end_word-next.result c.end_word-next.ensures c.if-byte-eq10.true c.if-line-ge-MAX_LINE.false

pub returns-then-s : goal.returns-then-s
returns-then-s c = step_comment _ _ c.if-byte-eq10.false c.if-s.true

pub returns-then-byte-eq35 : goal.returns-then-byte-eq35
returns-then-byte-eq35 c = step_hash _ _ c.if-byte-eq10.false c.if-s.false c.end_word-next-then-byte-eq35.result c.end_word-next-then-byte-eq35.ensures c.if-byte-eq35.true

pub returns-in-32 : goal.returns-in-32
returns-in-32 c = c.end_word.ensures ∙ step_blank _ _ c.if-byte-eq10.false c.if-s.false c.if-byte-eq35.false (blank_key _ c.in-32.is)

pub returns-in_default : goal.returns-in_default
returns-in_default c = step_word _ _ c.if-byte-eq10.false c.if-s.false c.if-byte-eq35.false (blank_none c.args.byte (search rules)) c.grow.result (search rules)
