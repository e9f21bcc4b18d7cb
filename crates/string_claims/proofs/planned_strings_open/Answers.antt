use Rattle.string_claims.specs.Plans.{strings_open}
use Rattle.string_claims.proofs.planned_strings_open.Goals as goal

pub returns : goal.returns
returns c = strings_open
