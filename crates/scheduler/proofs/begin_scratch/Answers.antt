use mathlib.Core.Path.{sym, ◌∙◌}
use Rattle.desk.specs.Scratch.{begin_scratch}
use Rattle.scheduler.proofs.begin_scratch.Goals as goal

pub returns-then-is_short : goal.returns-then-is_short
unfolding begin_scratch
returns-then-is_short c = rw (sym c.is_short.ensures ∙ c.if-is_short.true) c.not_begun.ensures

pub returns : goal.returns
unfolding begin_scratch
returns c = rw (sym c.is_short.ensures ∙ c.if-is_short.false) c.begun.ensures
