use Rattle.std.proofs.Common.{arith, rules}
use Rattle.desk_layout.specs.Parts.{slots_written}
use Rattle.desk_layout.proofs.put_slots.Goals as goal

pub returns : goal.returns
returns c = slots_written _ _ _ _ _ _ _ (search rules) (omega arith) (omega arith) c.put_kinds.ensures.0 cc
