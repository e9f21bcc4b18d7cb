-- The line of a kept word, or where the text ends.
use Rattle.mkcard.proofs.WordWays.{line_end, line_past, line_word}
use Rattle.mkcard.proofs.make.line_of.Goals as goal

pub returns-then-s-i : goal.returns-then-s-i
returns-then-s-i c = line_end _ _ c.if-s-i.true

pub returns-then-i-ge-WORDS : goal.returns-then-i-ge-WORDS
returns-then-i-ge-WORDS c = line_past _ _ c.if-s-i.false c.if-i-ge-WORDS.true

pub returns : goal.returns
returns c = line_word _ _ c.if-s-i.false c.if-i-ge-WORDS.false
