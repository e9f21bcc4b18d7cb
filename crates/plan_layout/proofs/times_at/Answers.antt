use Rattle.plan_layout.specs.Layout.{plan_in}
use Rattle.plan_layout.proofs.times_at.Goals as goal

pub returns : goal.returns
unfolding plan_in
returns c = c.read_array.ensures
