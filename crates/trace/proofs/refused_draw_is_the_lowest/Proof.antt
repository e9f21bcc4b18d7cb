use Rattle.trace.proofs.DrawLaws.{limit_lowest, held_lowest}
use Rattle.trace.proofs.refused_draw_is_the_lowest.Statement.{statement}
use Rattle.trace.proofs.refused_draw_is_the_lowest.Tie as tie

returns : tie.Need-returns
returns c = (limit_lowest, held_lowest)

pub refused_draw_is_the_lowest_spec : {M : Type 1} → statement M
refused_draw_is_the_lowest_spec = tie.close (tie.spec returns)
