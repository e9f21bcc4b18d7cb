use Rattle.std.proofs.Common.{arith}
use Rattle.desk_layout.specs.RoundTrip.{fresh_stored}
use Rattle.desk_layout.proofs.write_fresh.Goals as goal

pub returns : goal.returns
returns c = fresh_stored _ _ _ (omega arith) cc
