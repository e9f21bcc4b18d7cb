use Rattle.string_claims.specs.Plans.{plan_told, plan_cleared, plan_kept, other_kept, lists_kept}
use Rattle.string_claims.proofs.plan_call_leaves.Goals as goal

pub returns : goal.returns
returns c = record { accepted = plan_told; cleared = plan_cleared; kept = plan_kept; other = other_kept; lists = lists_kept }
