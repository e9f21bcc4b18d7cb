use Rattle.fault_claims.proofs.RecordNamed.{record_named}
use Rattle.fault_claims.proofs.first_fault_of_a_record_is_named.Goals as goal

pub returns : goal.returns
returns c = record_named
