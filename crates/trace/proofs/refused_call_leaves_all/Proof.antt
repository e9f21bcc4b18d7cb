use Rattle.trace.specs.SafeLists.{fetches_kept}
use Rattle.trace.proofs.SafeLists.{refused_leaves}
use Rattle.trace.specs.PlannedLaws.{lists_kept}
use Rattle.trace.specs.ScratchLaws.{scratch_kept, scratch_fetches_kept}
use Rattle.trace.proofs.refused_call_leaves_all.Statement.{statement}
use Rattle.trace.proofs.refused_call_leaves_all.Tie as tie

returns : tie.Need-returns
returns c = (refused_leaves, (fetches_kept, (lists_kept, (scratch_kept, scratch_fetches_kept))))

pub refused_call_leaves_all_spec : {M : Type 1} → statement M
refused_call_leaves_all_spec = tie.close (tie.spec returns)
