use Rattle.open_strings.proofs.Opens.{opened_other, open_refused}
use Rattle.open_strings.proofs.open_by.Goals as goal

pub returns-then-plan-ne-PLAN_BYTES : goal.returns-then-plan-ne-PLAN_BYTES
returns-then-plan-ne-PLAN_BYTES c =
    open_refused _ _ _ _ _ (opened_other _ _ _ c.if-plan-ne-PLAN_BYTES.true) _ c.refuse_open.ensures

pub returns : goal.returns
returns c = c.open_plan.ensures
