use Rattle.cases.proofs.Cases.{cases}
use Rattle.cases.proofs.worked_cases.Goals as goal

pub returns : goal.returns
returns c = cases
