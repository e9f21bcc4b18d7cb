use native.Mathlib.Omega.{arith}
use Rattle.walk.specs.Meets.{meets}
use Rattle.walk.proofs.walk_on.Goals as goal

pub zone_of-low-requires : goal.zone_of-low-requires
zone_of-low-requires c = let p = c.requires in meets p.0 p.1.low (omega arith)

pub zone_of-high-requires : goal.zone_of-high-requires
zone_of-high-requires c = let p = c.requires in meets p.0 p.1.high (omega arith)

pub run_from-requires : goal.run_from-requires
run_from-requires c = let p = c.requires in (p.0, p.2, c.zone_of-low.ensures, c.zone_of-high.ensures)

pub returns : goal.returns
returns c = c.run_from.ensures
