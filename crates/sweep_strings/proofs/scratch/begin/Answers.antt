use mathlib.Core.Path.{refl, sym, ◌∙◌}
use Rattle.desk_calls.specs.Calls.{begin_scratch_answer, begin_scratch_string, fetch_scratch_string}
use Rattle.sweep_strings.proofs.scratch.begin.Goals as goal

pub returns-then-is_short : goal.returns-then-is_short
unfolding begin_scratch_answer begin_scratch_string fetch_scratch_string
returns-then-is_short c = rw (sym c.is_short.ensures ∙ c.if-is_short.true) (c.number_answer.ensures, refl, refl)

pub returns : goal.returns
unfolding begin_scratch_answer begin_scratch_string fetch_scratch_string
returns c =
    rw (sym c.is_short.ensures ∙ c.if-is_short.false) c.begin_by.ensures
