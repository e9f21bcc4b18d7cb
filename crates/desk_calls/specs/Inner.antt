-- What the inner functions of the desk's calls answer.
use Rattle.std.specs.Prelude.{ℕ, ◌*◌, ◌≤◌, List, Bool, length}
use Rattle.numbers.specs.Limits.{max_streams}
use Rattle.words.specs.Words.{words_of}
use Rattle.plan.specs.Scratch.{leads_by}
use Rattle.plan_layout.specs.Layout.{plan_in}
use Rattle.sweep.specs.declared.Swept.{Swept}
use Rattle.admission.specs.declared.Move.{Move}
use Rattle.admission.specs.Moves.{move_desk}
use Rattle.layout.specs.declared.FilmdiskAnswer.{FilmdiskAnswer}
use Rattle.layout.specs.Answers.{verdict_answer}
use Rattle.desk_calls.specs.Calls.{said, answer_by, string_by}

-- the answer of a join or a leave on a desk string D, and the string after it
unfoldable pub move_answer : List ℕ → List ℕ → List ℕ → Move → FilmdiskAnswer
move_answer D ps ls m = answer_by D (verdict_answer (move_desk (said D) ps ls m).verdict)

unfoldable pub move_string : List ℕ → List ℕ → List ℕ → Move → List ℕ
move_string D ps ls m = string_by D (move_desk (said D) ps ls m).desk

-- the answer of a begin that was accepted, from what it changed
abbrev pub swept_answer : Swept → FilmdiskAnswer
swept_answer s = record { number = s.verdict.number; place = s.verdict.place; count = s.fetches.count; bound = s.bound }

-- so many fetches have room in a fetch string
abbrev pub FetchesFit : ℕ → List ℕ → Type 0
FetchesFit n F = (n ≤ max_streams) × (3 * n ≤ length (words_of F))

-- the lead list that a call goes by, with a list or without one, by its plan string or its desk string
abbrev pub plan_by : Bool → List ℕ → List ℕ → List ℕ
plan_by listed P ls = leads_by listed (plan_in (words_of P)) ls

abbrev pub desk_by : Bool → List ℕ → List ℕ → List ℕ
desk_by listed D ls = leads_by listed (said D).plan ls
