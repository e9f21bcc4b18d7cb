-- An accepted card's plan of half blocks has its lists.
use Rattle.plan.specs.Check.{shows_pairs}
use Rattle.listing.proofs.list.Goals as goal

pub print_all_halves-requires : goal.print_all_halves-requires
print_all_halves-requires g c = (c.requires.plan, shows_pairs _ c.if-plan-eq-PAIRS.true)
