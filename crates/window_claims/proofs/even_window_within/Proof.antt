use Rattle.pacing.specs.WindowLaws.{even_row}
use Rattle.window_claims.specs.WorstLaws.{even_worst}
use Rattle.window_claims.proofs.even_window_within.Statement.{statement}
use Rattle.window_claims.proofs.even_window_within.Tie as tie

returns : tie.Need-returns
returns c = (even_row, even_worst)

pub even_window_within_spec : {M : Type 1} → statement M
even_window_within_spec = tie.close (tie.spec returns)
