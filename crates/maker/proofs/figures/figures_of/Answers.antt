use Rattle.std.proofs.Common.{◌*◌}
use Rattle.numbers.specs.Limits.{straight_kind}
use Rattle.numbers.specs.Units.{sector_bytes}
use Rattle.maker.specs.Maker.{filled}
use Rattle.maker.proofs.figures.figures_of.Goals as goal

pub returns : goal.returns
unfolding filled
returns c =
    let a = c.args in
    λ t. record {
      kind = straight_kind;
      zones = a.count;
      positions = a.zones.positions;
      times = a.zones.times;
      films = 1;
      blocks = c.one_film.ensures t;
      bytes = sector_bytes * a.block;
      rate = a.rate;
      table = c.table_of.ensures t;
    }
