use Rattle.plan.proofs.Halves.{no_matching_better, halves_plan}
use Rattle.plan.proofs.halves_matched_best.Statement.{statement}
use Rattle.plan.proofs.halves_matched_best.Tie as tie

returns : tie.Need-returns
returns c = (no_matching_better, halves_plan)

pub halves_matched_best_spec : {M : Type 1} → statement M
halves_matched_best_spec = tie.close (tie.spec returns)
