use mathlib.Core.Path.{◌∙◌}
use Rattle.admission.proofs.States.{joins_taken, joins_none, joins_past, joins_done, leaves_vacant, leaves_done}
use Rattle.admission.proofs.judge_state.Goals as goal

pub returns-then-kind-ne-FREE : goal.returns-then-kind-ne-FREE
returns-then-kind-ne-FREE c = c.verdict.ensures ∙ joins_taken _ _ _ _ c.if-step.true c.if-kind-ne-FREE.true

pub returns-then-step-films : goal.returns-then-step-films
returns-then-step-films c = c.verdict-then-step-films.ensures ∙ joins_none _ _ _ _ c.if-step.true c.if-kind-ne-FREE.false c.if-step-films.true

pub returns-then-step-blocks : goal.returns-then-step-blocks
returns-then-step-blocks c = c.verdict-then-step-blocks.ensures ∙ joins_past _ _ _ _ c.if-step.true c.if-kind-ne-FREE.false c.if-step-films.false c.if-step-blocks.true

pub returns-then-step : goal.returns-then-step
returns-then-step c = c.verdict-then-step.ensures ∙ joins_done _ _ _ _ c.if-step.true c.if-kind-ne-FREE.false c.if-step-films.false c.if-step-blocks.false

pub returns-then-kind-eq-FREE : goal.returns-then-kind-eq-FREE
returns-then-kind-eq-FREE c = c.verdict-then-kind-eq-FREE.ensures ∙ leaves_vacant _ _ _ _ c.if-step.false c.if-kind-eq-FREE.true

pub returns : goal.returns
returns c = c.verdict-2.ensures ∙ leaves_done _ _ _ _ c.if-step.false c.if-kind-eq-FREE.false
