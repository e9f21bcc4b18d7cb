use Rattle.std.proofs.Common.{◌-◌}
use Rattle.card.specs.Card.{zone_numbers}
use Rattle.card_writer.proofs.WriterWays.{Writes}
use Rattle.card_writer.proofs.writing.put_zones.Given as goal

-- the zones before the i-th are put
abbrev pub invariant-loop-i : goal.invariant-loop-i
invariant-loop-i l =
    let f = l.figures in
    Writes l.write l.fn.out l.fn.start (zone_numbers f.zones 0 f) l.out l.at (zone_numbers (f.zones - l.i) l.i f)
