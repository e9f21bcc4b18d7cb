use Rattle.plan.specs.Ways.{judged_is}
use Rattle.plan.proofs.judged_figures_of.Goals as goal

pub returns : goal.returns
returns c =
    let a = c.args in
    judged_is a.visits a.figures c.judge_figures_of.result c.judge_figures_of.ensures
