use Rattle.window_claims.proofs.WorstLaws.{window_worst, worst_window_law, answer_worst}
use Rattle.window_claims.proofs.window_is_the_worst.Statement.{statement}
use Rattle.window_claims.proofs.window_is_the_worst.Tie as tie

returns : tie.Need-returns
returns c = (window_worst, (worst_window_law, answer_worst))

pub window_is_the_worst_spec : {M : Type 1} → statement M
window_is_the_worst_spec = tie.close (tie.spec returns)
