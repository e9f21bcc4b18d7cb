use Rattle.desk_calls.specs.Calls.{end_answer, end_string}
use Rattle.desk_calls.specs.Judged.{other_call}
use Rattle.sweep_strings.proofs.end_by.Goals as goal

pub returns-then-desk-ne-DESK_BYTES : goal.returns-then-desk-ne-DESK_BYTES
unfolding end_answer end_string
returns-then-desk-ne-DESK_BYTES c = other_call _ _ _ _ c.if-desk-ne-DESK_BYTES.true c.number_answer.ensures

pub returns : goal.returns
returns c = c.end_desk.ensures
