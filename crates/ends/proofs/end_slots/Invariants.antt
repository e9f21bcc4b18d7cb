-- The first i slots are done.
use Rattle.std.proofs.Common.{◌≡◌}
use Rattle.words.specs.Words.{words_of}
use Rattle.desk.specs.Records.{record_of}
use Rattle.desk_layout.specs.Layout.{desk_in}
use Rattle.ends.proofs.Ending.{ended_up_to}
use Rattle.ends.proofs.end_slots.Given as goal

abbrev pub invariant-loop-i : goal.invariant-loop-i
invariant-loop-i l =
    let d = desk_in (words_of l.desk) in
    record_of d.plan d.phase l.kinds l.next l.held d.places ≡ ended_up_to d (words_of l.draws) l.i
