-- No word, a word past the last one that is kept, or one that is kept.
use Rattle.std.proofs.Common.{rules}
use Rattle.mkcard.proofs.WordWays.{ended_none, ended_full, ended_kept}
use Rattle.mkcard.proofs.scan.end_word.Goals as goal

pub returns-in_default : goal.returns-in_default
returns-in_default c = ended_none c.args.s (search rules)

pub returns-then-i-ge-WORDS : goal.returns-then-i-ge-WORDS
returns-then-i-ge-WORDS c = ended_full c.args.s _ c.in-Some.is c.if-i-ge-WORDS.true

pub returns : goal.returns
returns c = ended_kept c.args.s _ c.in-Some.is c.if-i-ge-WORDS.false
