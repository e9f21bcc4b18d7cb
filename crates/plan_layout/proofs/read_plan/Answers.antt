use Rattle.std.proofs.Common.{arith}
use Rattle.words.specs.Laws.{words_length}
use Rattle.plan_layout.specs.RoundTrip.{plan_read}
use Rattle.plan_layout.proofs.read_plan.Goals as goal

pub plan_at-requires : goal.plan_at-requires
plan_at-requires c = omega (arith, words_length c.args.list.now)

pub returns : goal.returns
returns c = let e = c.plan_at.ensures in plan_read _ _ e.0 e.1
