use mathlib.Core.Path.{sym, ap, ◌∙◌}
use Rattle.words.specs.Words.{with_words}
use Rattle.plan_layout.specs.RoundTrip.{plan_blank}
use Rattle.plan_layout.proofs.clear_plan.Goals as goal

pub returns : goal.returns
returns c = c.clear_words.ensures ∙ ap (with_words _ 0) (sym plan_blank)
