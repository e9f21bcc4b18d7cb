use Rattle.std.proofs.Common.{arith, rules}
use Rattle.desk_layout.specs.Parts.{places_written}
use Rattle.desk_layout.proofs.put_places.Goals as goal

pub returns : goal.returns
returns c = (places_written _ _ _ (search rules) (omega arith) (omega arith) cc, omega arith)
