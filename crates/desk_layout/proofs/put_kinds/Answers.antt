use Rattle.std.proofs.Common.{arith, rules}
use Rattle.desk_layout.specs.Parts.{kinds_written}
use Rattle.desk_layout.proofs.put_kinds.Goals as goal

pub returns : goal.returns
returns c = (kinds_written _ _ _ _ (search rules) (omega arith) (omega arith) cc, omega arith)
