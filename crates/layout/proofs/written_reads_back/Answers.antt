use Rattle.plan_layout.specs.RoundTrip.{plan_written}
use Rattle.desk_layout.specs.RoundTrip.{desk_written}
use Rattle.layout.proofs.written_reads_back.Goals as goal

pub returns : goal.returns
returns c = record { plans = plan_written; desks = desk_written }
