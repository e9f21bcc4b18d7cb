-- Each turn writes one number of the run, within the room.
use Rattle.std.proofs.Common.{length, ◌≡◌, ◌≤◌}
use Rattle.case_text.proofs.runs.write_run.Given as goal

abbrev pub invariant-loop : goal.invariant-loop
invariant-loop l = (length l.out ≡ length l.initial.out) × (l.at ≤ length l.out)
