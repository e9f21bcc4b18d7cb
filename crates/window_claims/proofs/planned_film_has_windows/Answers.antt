use Rattle.window_claims.specs.WorstLaws.{planned_windows}
use Rattle.window_claims.proofs.planned_film_has_windows.Goals as goal

pub returns : goal.returns
returns c = planned_windows
