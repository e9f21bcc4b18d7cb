use mathlib.Core.Path.{sym, ap, ◌∙◌}
use Rattle.numbers.specs.Refusals.{too_short}
use Rattle.desk.specs.declared.Desk.{Desk}
use Rattle.desk.specs.Records.{answers}
use Rattle.desk.specs.Scratch.{open_scratch}
use Rattle.admission.proofs.open_scratch.Goals as goal

pub returns-then-is_short : goal.returns-then-is_short
unfolding open_scratch
returns-then-is_short c = rw (sym c.is_short.ensures ∙ c.if-is_short.true)
    (c.answer_with.ensures ∙ ap (λ (d : Desk). answers d too_short 0) c.blank_desk.ensures)

pub returns : goal.returns
unfolding open_scratch
returns c = rw (sym c.is_short.ensures ∙ c.if-is_short.false) c.opened.ensures
