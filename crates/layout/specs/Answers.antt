-- The answers that calls from C get.
use Rattle.std.specs.Prelude.{ℕ}
use Rattle.card.specs.declared.Verdict.{Verdict}
use Rattle.layout.specs.declared.FilmdiskAnswer.{FilmdiskAnswer}
use Rattle.layout.specs.declared.FilmdiskWindowAnswer.{FilmdiskWindowAnswer}

-- the answer of a call that has no count and no bound
unfoldable pub verdict_answer : Verdict → FilmdiskAnswer
verdict_answer v = record { number = v.number; place = v.place; count = 0; bound = 0 }

-- the answer of a window call: a worst time, its place and the bytes of the window
unfoldable pub window_answer_of : Verdict → ℕ → ℕ → ℕ → FilmdiskWindowAnswer
window_answer_of v time first bytes = record { number = v.number; place = v.place; time = time; first = first; bytes = bytes }
