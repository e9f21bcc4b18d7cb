use Rattle.std.proofs.Common.{sym, ◌∙◌}
use Rattle.desk.specs.Desk.{blank_desk}
use Rattle.desk_calls.specs.ByLength.{right_string, other_string}
use Rattle.open_strings.proofs.refuse_open.Goals as goal

pub returns-then-desk-eq-DESK_BYTES : goal.returns-then-desk-eq-DESK_BYTES
returns-then-desk-eq-DESK_BYTES c = (c.number_answer.ensures, c.clear_desk.ensures ∙ sym (right_string _ c.if-desk-eq-DESK_BYTES.true blank_desk))

pub returns : goal.returns
returns c = (c.number_answer-2.ensures, sym (other_string _ c.if-desk-eq-DESK_BYTES.false blank_desk))
