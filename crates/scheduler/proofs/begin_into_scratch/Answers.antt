use Rattle.std.proofs.Common.{refl, sym, ◌∙◌}
use Rattle.desk.specs.Scratch.{begin_scratch, fetch_list_scratch}
use Rattle.scheduler.proofs.begin_into_scratch.Goals as goal

pub returns-then-is_short : goal.returns-then-is_short
unfolding begin_scratch fetch_list_scratch
returns-then-is_short c = rw (sym c.is_short.ensures ∙ c.if-is_short.true) (c.not_begun.ensures, refl)

pub returns-else-is_short : goal.returns-else-is_short
unfolding begin_scratch fetch_list_scratch
returns-else-is_short c = rw (sym c.is_short.ensures ∙ c.if-is_short.false) c.begun_into.ensures
