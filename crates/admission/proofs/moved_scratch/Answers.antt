use mathlib.Core.Path.{sym, ◌∙◌}
use Rattle.admission.specs.Moves.{move_scratch}
use Rattle.admission.proofs.moved_scratch.Goals as goal

pub returns-then-is_short : goal.returns-then-is_short
unfolding move_scratch
returns-then-is_short c = rw (sym c.is_short.ensures ∙ c.if-is_short.true) c.answer_with.ensures

pub returns : goal.returns
unfolding move_scratch
returns c = rw (sym c.is_short.ensures ∙ c.if-is_short.false) c.moved.ensures
