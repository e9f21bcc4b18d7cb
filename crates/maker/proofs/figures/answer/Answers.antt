use Rattle.std.proofs.Common.{◌∙◌, arith}
use Rattle.maker.proofs.FigureWays.{figures_refused, figures_accepted}
use Rattle.maker.proofs.figures.answer.Goals as goal

pub returns-then-verdict-ne0 : goal.returns-then-verdict-ne0
returns-then-verdict-ne0 c = c.refused_text.ensures ∙ figures_refused _ _ c.judge_figures-verdict.ensures (λ e. omega arith)

pub returns : goal.returns
returns c = figures_accepted _ _ c.judge_figures-verdict.ensures (omega arith)
