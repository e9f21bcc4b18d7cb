use mathlib.Core.Path.{sym, ◌∙◌}
use Rattle.desk.specs.Scratch.{end_scratch}
use Rattle.scheduler.proofs.end_scratch.Goals as goal

pub returns-then-is_short : goal.returns-then-is_short
unfolding end_scratch
returns-then-is_short c = rw (sym c.is_short.ensures ∙ c.if-is_short.true) c.answer_with.ensures

pub returns : goal.returns
unfolding end_scratch
returns c = rw (sym c.is_short.ensures ∙ c.if-is_short.false) c.ended.ensures
