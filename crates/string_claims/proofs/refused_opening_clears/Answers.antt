use Rattle.string_claims.specs.Kept.{open_cleared, open_other}
use Rattle.string_claims.proofs.refused_opening_clears.Goals as goal

pub returns : goal.returns
returns c = record { cleared = open_cleared; other = open_other }
