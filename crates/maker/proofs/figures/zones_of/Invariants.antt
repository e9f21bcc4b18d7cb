use Rattle.std.proofs.Common.{get_or}
use Rattle.tracks.specs.Tracks.{positions_in, time_in, narrowed}
use Rattle.maker.proofs.FigureWays.{Building}
use Rattle.maker.proofs.figures.zones_of.Given as goal

abbrev pub invariant-loop-i : goal.invariant-loop-i
invariant-loop-i l =
    let d = l.fn.drive in
    let r = l.fn.rows in
    record {
      places : Building r.count (λ k. narrowed (positions_in d.heads d.block (get_or r.cylinders k 0) (get_or r.tracks k 0))) l.zones.positions l.i;
      speeds : Building r.count (λ k. narrowed (time_in d.turns d.switch d.block (get_or r.tracks k 0))) l.zones.times l.i;
    }
