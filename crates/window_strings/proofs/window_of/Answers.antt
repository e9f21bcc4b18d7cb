use mathlib.Core.Path.{ap, ◌∙◌}
use Rattle.std.proofs.Common.{arith}
use lib.ListN.{length}
use borrow.Author.Tests.{eq-eqb, ne_eqb}
use Rattle.plan.specs.declared.Plan.{Plan}
use Rattle.window.specs.Window.{window_answer}
use Rattle.plan_layout.specs.Layout.{plan_size}
use Rattle.window_strings.specs.Calls.{window_from}
use Rattle.window_strings.proofs.window_of.Goals as goal

pub returns-then-plan-ne-PLAN_BYTES : goal.returns-then-plan-ne-PLAN_BYTES
unfolding window_from
returns-then-plan-ne-PLAN_BYTES c = let a = c.args in
    rw (ne_eqb (length a.plan.now) plan_size (omega (arith, c.if-plan-ne-PLAN_BYTES.true))) c.refused.ensures

pub returns : goal.returns
unfolding window_from
returns c = let a = c.args in
    rw (eq-eqb (length a.plan.now) plan_size (omega (arith, c.if-plan-ne-PLAN_BYTES.false)))
    (c.worst_window.ensures ∙ ap (λ (p : Plan). window_answer p a.positions.now a.count) c.read_plan.ensures)
