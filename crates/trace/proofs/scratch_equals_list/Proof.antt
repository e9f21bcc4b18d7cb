use Rattle.trace.specs.ScratchLaws.{same_planned, same_opened, same_desk}
use Rattle.trace.proofs.scratch_equals_list.Statement.{statement}
use Rattle.trace.proofs.scratch_equals_list.Tie as tie

returns : tie.Need-returns
returns c = (same_planned, (same_opened, same_desk))

pub scratch_equals_list_spec : {M : Type 1} → statement M
scratch_equals_list_spec = tie.close (tie.spec returns)
