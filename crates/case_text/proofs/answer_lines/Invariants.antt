-- Each case ends after the one before it.
use Rattle.std.proofs.Common.{length, ◌-◌}
use Rattle.case_text.proofs.answer_lines.Given as goal

abbrev pub decreases-loop-case : goal.decreases-loop-case
decreases-loop-case g l = length l.text - l.case.end
