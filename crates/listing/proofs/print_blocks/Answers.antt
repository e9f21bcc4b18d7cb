-- The blocks of all films can be counted.
use Rattle.std.proofs.Common.{arith, rules}
use Rattle.legality.specs.Legality.{Wide}
use Rattle.listing.proofs.ListedPlan.{plan_legal, films_counted}
use Rattle.listing.proofs.print_blocks.Goals as goal

pub blocks_before-blocks-requires : goal.blocks_before-blocks-requires
blocks_before-blocks-requires g c =
    let a = c.args in
    let wide : Wide a.plan.figures = (search rules, search rules, search rules, search rules) in
    films_counted a.plan.figures (plan_legal a.plan a.positions.now a.leads.now wide c.requires) a.plan.figures.films (omega arith)
