-- Both halves' positions are in the list, and on the disk; their lead is in the list.
use Rattle.std.proofs.Common.{arith, rules}
use Rattle.legality.specs.Legality.{Wide}
use Rattle.listing.proofs.ListedPlan.{plan_zoned, leads_long, halves_on}
use Rattle.listing.proofs.print_halves.Goals as goal

pub word_at-low-requires : goal.word_at-low-requires
word_at-low-requires g c =
    let a = c.args in
    let wide : Wide a.plan.figures = (search rules, search rules, search rules, search rules) in
    (halves_on a.plan a.positions.now a.leads.now wide c.requires.0 c.requires.1 a.b c.requires.2).0.0

pub word_at-high-requires : goal.word_at-high-requires
word_at-high-requires g c =
    let a = c.args in
    let wide : Wide a.plan.figures = (search rules, search rules, search rules, search rules) in
    (halves_on a.plan a.positions.now a.leads.now wide c.requires.0 c.requires.1 a.b c.requires.2).1.0

pub time_at-first-requires : goal.time_at-first-requires
time_at-first-requires g c =
    let a = c.args in
    let wide : Wide a.plan.figures = (search rules, search rules, search rules, search rules) in
    let placed = halves_on a.plan a.positions.now a.leads.now wide c.requires.0 c.requires.1 a.b c.requires.2 in
    (plan_zoned a.plan a.positions.now a.leads.now wide c.requires.0, omega (arith, placed.0.1, c.word_at-low.ensures))

pub time_at-second-requires : goal.time_at-second-requires
time_at-second-requires g c =
    let a = c.args in
    let wide : Wide a.plan.figures = (search rules, search rules, search rules, search rules) in
    let placed = halves_on a.plan a.positions.now a.leads.now wide c.requires.0 c.requires.1 a.b c.requires.2 in
    (plan_zoned a.plan a.positions.now a.leads.now wide c.requires.0, omega (arith, placed.1.1, c.word_at-high.ensures))

pub word_at-lead-requires : goal.word_at-lead-requires
word_at-lead-requires g c =
    let a = c.args in
    let wide : Wide a.plan.figures = (search rules, search rules, search rules, search rules) in
    omega (arith, leads_long a.plan a.positions.now a.leads.now wide c.requires.0, c.requires.2)
