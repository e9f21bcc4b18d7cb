use Rattle.std.proofs.Common.{arith, rules}
use Rattle.desk_layout.specs.Parts.{slot_written}
use Rattle.desk_layout.proofs.put_slot.Goals as goal

pub returns : goal.returns
returns c = slot_written _ _ _ _ _ _ (search rules) (omega arith) (omega arith) cc
