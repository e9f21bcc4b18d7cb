use mathlib.Core.Path.{refl}
use Rattle.zones.proofs.Cursors.{innermost_zone}
use Rattle.zones.proofs.innermost.Goals as goal

pub returns : goal.returns
returns c = (innermost_zone c.args.sizes.now c.requires, refl)
