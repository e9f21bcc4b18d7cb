-- Each turn reads one run, within the entries.
use Rattle.std.proofs.Common.{length, ◌≤◌}
use Rattle.case_text.proofs.runs.read_entries.Given as goal

abbrev pub invariant-loop : goal.invariant-loop
invariant-loop l = l.k ≤ length l.entries
