-- The blocks of the films before one can be counted.
use Rattle.std.proofs.Common.{arith}
use Rattle.listing.proofs.ListedPlan.{films_counted}
use Rattle.listing.proofs.print_films.Goals as goal

pub blocks_before-first-requires : goal.blocks_before-first-requires
blocks_before-first-requires g c = films_counted c.args.plan.figures c.requires _ (omega arith)
