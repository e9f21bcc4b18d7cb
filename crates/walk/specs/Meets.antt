-- A law of walks.
-- Assumes nothing.
use Rattle.std.specs.Prelude.{ℕ, ◌≤◌, List}
use Rattle.plan.specs.Disk.{OnDisk}
use Rattle.zones.specs.declared.Zone.{Zone}
use Rattle.zones.specs.Cursor.{ZoneOf}
use Rattle.walk.specs.Walk.{Meets}

-- a cursor may look for any block of a film, and for the one past the last
pub meets : {ps ts : List ℕ} {P N b : ℕ} {z : Zone} → OnDisk ps ts P N → ZoneOf ps z → b ≤ N → Meets ps P N z b
meets f z u = record { zoned = f.disk.zoned; zone = z; whole = f.whole; some = f.some; room = f.room; block = u }
