-- Each turn reads one run, within the room.
use Rattle.std.proofs.Common.{length, ◌≡◌, ◌≤◌}
use Rattle.case_text.proofs.runs.read_runs.Given as goal

abbrev pub invariant-loop : goal.invariant-loop
invariant-loop l = (length l.out ≡ length l.initial.out) × (l.count ≤ length l.out)
