use mathlib.Core.Path.{ap, ap₂, ◌∙◌}
use Rattle.legality.specs.Legality.{Wide}
use Rattle.placement.specs.Showing.{loop, walked}
use Rattle.plan.specs.Check.{showing_back}
use Rattle.plan.specs.Ways.{judged_legal}
use Rattle.try_all.specs.Answer.{tried}
use borrow.Author.Rules.{rules}
use Rattle.try_all.proofs.try_loop_record.Statement.{statement}
use Rattle.try_all.proofs.try_loop_record.Tie as tie

wide : (c : tie.Start) → Wide c.args.figures
wide c = (search rules, search rules, search rules, search rules)

try-figures-requires : tie.Need-try_figures-requires
try-figures-requires c κs = judged_legal 1 c.args.figures (wide c.before) c.judged_figures.result c.judged_figures.ensures

returns : tie.Need-returns
returns c = c.try_figures.ensures ∙ ap₂ tried (ap walked (showing_back loop)) c.judged_figures.ensures

pub try_loop_record_spec : {M : Type 1} → statement M
try_loop_record_spec = tie.close (tie.spec (λ c κs. search rules) try-figures-requires returns)
