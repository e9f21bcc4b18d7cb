use mathlib.Core.Path.{refl, sym, ◌∙◌}
use Rattle.desk_calls.specs.Calls.{end_scratch_answer, end_scratch_string}
use Rattle.sweep_strings.proofs.scratch.end.Goals as goal

pub returns-then-is_short : goal.returns-then-is_short
unfolding end_scratch_answer end_scratch_string
returns-then-is_short c = rw (sym c.is_short.ensures ∙ c.if-is_short.true) (c.number_answer.ensures, refl)

pub returns : goal.returns
unfolding end_scratch_answer end_scratch_string
returns c =
    rw (sym c.is_short.ensures ∙ c.if-is_short.false) c.end_by.ensures
