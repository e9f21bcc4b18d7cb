use Rattle.card.specs.Read.{blank_figures, blank_zones, blank_films, blank_table}
use Rattle.maker.proofs.figures.no_figures.Goals as goal

pub returns : goal.returns
unfolding blank_figures blank_zones blank_films blank_table
returns c =
    λ t. record {
      kind = 0;
      zones = 0;
      positions = c.zeros.ensures t;
      times = c.zeros-2.ensures t;
      films = 0;
      blocks = c.zeros-3.ensures t;
      bytes = 0;
      rate = 0;
      table = c.zeros-4.ensures t;
    }
