use Rattle.admission.proofs.States.{joins_kind, leaves_kind}
use Rattle.admission.proofs.kind_after.Goals as goal

pub returns-then-step : goal.returns-then-step
returns-then-step c = joins_kind _ c.if-step.true

pub returns : goal.returns
returns c = leaves_kind _ c.if-step.false
