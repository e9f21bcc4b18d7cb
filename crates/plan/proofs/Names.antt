-- Laws of what specs/Names defines.
use Rattle.std.specs.Prelude.{ℕ, ◌*◌, ◌-◌, ◌≤◌, ◌<◌, ◌≡◌, List, get_or}
use Rattle.std.proofs.Common.{◌∙◌, arith}
use Rattle.numbers.specs.Limits.{max_time}
use Rattle.words.specs.Words.{words_of}
use Rattle.card.specs.declared.Figures.{Figures}
use Rattle.card.specs.Card.{Legal}
use Rattle.placement.specs.Showing.{Showing, visits_of}
use Rattle.pacing.specs.Shelf.{film_in, block_in}
use Rattle.plan.specs.declared.Plan.{Plan}
use Rattle.plan.specs.Plan.{listed_at, film_of, lead_of}
use Rattle.plan.proofs.Legal.{block_time_law, lead_small}
use Rattle.plan.specs.Check.{Checked}
use Rattle.plan.specs.Names.{Named, lead_named, x as x_in_specs, f as f_in_specs}

-- sizes
module _ (x : Showing) (f : Figures) (ok : Legal (visits_of x) f) (a : ℕ) (n : Named f a) where
  pub named_time : (0 < (film_of x f).time a) × ((film_of x f).time a ≤ visits_of x * max_time)
  named_time = block_time_law x f ok (film_in a) (block_in a) n.0 n.1

  pub named_small : lead_of x f a ≤ max_time - 1
  named_small = omega (arith, lead_named x f a, lead_small x f ok (film_in a) (block_in a) n.0 n.1)

-- where the lists of a checked plan have it
module _ (p : Plan) (ps ls : List ℕ) (c : Checked p ps ls) (a : ℕ) (n : Named p.figures a) where
  abbrev x : Showing
  x = x_in_specs p ps ls c a n

  abbrev f : Figures
  f = f_in_specs p ps ls c a n

  pub lead_listed : get_or (words_of ls) (listed_at f a) 0 ≡ lead_of x f a
  lead_listed = c.lead_at_law (film_in a) (block_in a) n.0 n.1 ∙ lead_named x f a
