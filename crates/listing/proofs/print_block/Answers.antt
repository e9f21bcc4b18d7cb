-- A block's position is in its list, and on the disk; its lead is in the list.
use Rattle.std.proofs.Common.{arith, rules}
use Rattle.legality.specs.Legality.{Wide}
use Rattle.listing.proofs.ListedPlan.{plan_zoned, leads_long, position_on}
use Rattle.listing.proofs.print_block.Goals as goal

pub word_at-position-requires : goal.word_at-position-requires
word_at-position-requires g c =
    let a = c.args in
    let wide : Wide a.plan.figures = (search rules, search rules, search rules, search rules) in
    (position_on a.plan a.positions.now a.leads.now wide c.requires.0 a.b c.requires.1).0

pub time_at-time-requires : goal.time_at-time-requires
time_at-time-requires g c =
    let a = c.args in
    let wide : Wide a.plan.figures = (search rules, search rules, search rules, search rules) in
    let placed = position_on a.plan a.positions.now a.leads.now wide c.requires.0 a.b c.requires.1 in
    (plan_zoned a.plan a.positions.now a.leads.now wide c.requires.0, omega (arith, placed.1, c.word_at-position.ensures))

pub word_at-lead-requires : goal.word_at-lead-requires
word_at-lead-requires g c =
    let a = c.args in
    let wide : Wide a.plan.figures = (search rules, search rules, search rules, search rules) in
    omega (arith, leads_long a.plan a.positions.now a.leads.now wide c.requires.0, c.requires)
