use Rattle.trace.specs.ScratchLaws.{short_planned, short_desk}
use Rattle.trace.proofs.short_scratch_is_refused.Statement.{statement}
use Rattle.trace.proofs.short_scratch_is_refused.Tie as tie

returns : tie.Need-returns
returns c = (short_planned, short_desk)

pub short_scratch_is_refused_spec : {M : Type 1} → statement M
short_scratch_is_refused_spec = tie.close (tie.spec returns)
