use Rattle.plan_layout.specs.RoundTrip.{plan_kept}
use Rattle.desk_layout.specs.RoundTrip.{desk_kept}
use Rattle.layout.proofs.read_writes_back.Goals as goal

pub returns : goal.returns
returns c = record { plans = plan_kept; desks = desk_kept }
