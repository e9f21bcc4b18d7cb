use mathlib.Core.Path.{refl, sym, ◌∙◌}
use Rattle.desk_calls.specs.Calls.{open_scratch_answer, open_scratch_string}
use Rattle.open_strings.proofs.scratch.open.Goals as goal

pub returns-then-is_short : goal.returns-then-is_short
unfolding open_scratch_answer open_scratch_string
returns-then-is_short c = rw (sym c.is_short.ensures ∙ c.if-is_short.true) (c.number_answer.ensures, refl)

pub returns : goal.returns
unfolding open_scratch_answer open_scratch_string
returns c =
    rw (sym c.is_short.ensures ∙ c.if-is_short.false) c.open_by.ensures
