use Rattle.std.proofs.Common.{◌∙◌, eqb, rules, tests}
use Rattle.std.proofs.lemmas.Iterator.{YieldsList-from_slice}
use Rattle.std.proofs.lemmas.Iterator.Search.{all_from_yields_List}
use Rattle.card.proofs.JudgeWays.{all_zeros}
use Rattle.card.proofs.judge.all_zero.Goals as goal

pub returns : goal.returns
returns c =
    all_from_yields_List (λ v. eqb v 0) _ _ _ c.all.ensures.ran (YieldsList-from_slice c.args.list.now cc) (λ x b q k. search (rules, tests))
    ∙ all_zeros _
