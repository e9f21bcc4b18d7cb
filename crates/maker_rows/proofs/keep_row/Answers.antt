use Rattle.maker_rows.proofs.RowWays.{kept_full, kept_room}
use Rattle.maker_rows.proofs.keep_row.Goals as goal

pub returns-then-i-ge-MAX_ZONES : goal.returns-then-i-ge-MAX_ZONES
returns-then-i-ge-MAX_ZONES c = kept_full _ _ _ c.if-i-ge-MAX_ZONES.true

pub returns : goal.returns
returns c = kept_room _ _ _ c.if-i-ge-MAX_ZONES.false
