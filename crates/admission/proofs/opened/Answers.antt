use Rattle.std.proofs.Common.{sym, ap, ◌∙◌}
use Rattle.desk.specs.declared.Desk.{Desk}
use Rattle.desk.specs.Records.{answers}
use Rattle.admission.specs.Answers.{open_unfit, open_done}
use Rattle.admission.proofs.opened.Goals as goal

pub returns-then-not-is_plan : goal.returns-then-not-is_plan
returns-then-not-is_plan c =
    c.answer_with.ensures ∙ ap (λ (d : Desk). answers d 14 0) c.blank_desk.ensures ∙ open_unfit _ _ _ (sym c.is_plan.ensures ∙ c.if-not-is_plan.true)

pub returns : goal.returns
returns c =
    c.answer_with-2.ensures ∙ ap (λ (d : Desk). answers d 0 0) c.fresh_desk.ensures ∙ open_done _ _ _ (sym c.is_plan.ensures ∙ c.if-not-is_plan.false)
