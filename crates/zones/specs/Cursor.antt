-- A cursor over the zones of a disk.
use Rattle.std.specs.Prelude.{ℕ, suc, ◌≤◌, ◌<◌, ◌≡◌, List, take}
use Rattle.numbers.specs.Limits.{max_zones}
use Rattle.placement.specs.Zones.{total}
use Rattle.plan.specs.Disk.{Zoned}
use Rattle.zones.specs.declared.Zone.{Zone}

-- a zone of the disk, with its borders
pub record ZoneOf (ps : List ℕ) (z : Zone) : Type 0 where
  pub number : z.index < max_zones
  pub first : z.first ≡ total (take z.index ps)
  pub end : z.end ≡ total (take (suc z.index) ps)
  pub rises : z.first ≤ z.end
  pub on : z.end ≤ total ps

-- position q of the disk is looked for from a zone
pub record Seeks (ps : List ℕ) (z : Zone) (q : ℕ) : Type 0 where
  pub zoned : Zoned ps
  pub zone : ZoneOf ps z
  pub on : q < total ps

-- the zone that position q is in
pub record Holds (ps : List ℕ) (z : Zone) (q : ℕ) : Type 0 where
  pub zone : ZoneOf ps z
  pub from : z.first ≤ q
  pub to : q < z.end
