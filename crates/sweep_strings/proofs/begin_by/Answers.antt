use Rattle.sweep_strings.proofs.Sweeps.{begin_other}
use Rattle.sweep_strings.proofs.begin_by.Goals as goal

pub returns-then-desk-ne-DESK_BYTES : goal.returns-then-desk-ne-DESK_BYTES
returns-then-desk-ne-DESK_BYTES c = begin_other _ _ _ _ c.if-desk-ne-DESK_BYTES.true _ c.number_answer.ensures

pub returns : goal.returns
returns c = c.begin_desk.ensures
