-- What the desk's calls answer on byte strings, and what they leave in each. In a call D is the desk string, ps and ls are the lists.
use Rattle.std.specs.Prelude.{ℕ, ◌*◌, ◌/◌, List, cond, ◌&&◌, length, get_or, ltb, eqb}
use Rattle.numbers.specs.Limits.{max_streams}
use Rattle.numbers.specs.Refusals.{too_short, not_sound}
use Rattle.numbers.specs.Units.{micros}
use Rattle.words.specs.Words.{words_of, with_words}
use Rattle.card.specs.declared.Verdict.{Verdict}
use Rattle.desk.specs.declared.Desk.{Desk}
use Rattle.desk.specs.declared.Answer.{Answer}
use Rattle.desk.specs.declared.Begun.{Begun}
use Rattle.desk.specs.Desk.{verdict, blank_desk, open_desk, join_desk, leave_desk, begin_desk, fetch_list_after, end_desk}
use Rattle.plan.specs.Scratch.{scratch_short}
use Rattle.desk.specs.Scratch.{plan_leads, desk_leads}
use Rattle.draws.specs.Draws.{kind_limit}
use Rattle.layout.specs.declared.FilmdiskAnswer.{FilmdiskAnswer}
use Rattle.layout.specs.Answers.{verdict_answer}
use Rattle.plan_layout.specs.Layout.{plan_in, plan_size}
use Rattle.desk_layout.specs.Layout.{desk_words, desk_in, desk_size}

-- a refusal with no place
abbrev pub refused_by : ℕ → FilmdiskAnswer
refused_by k = verdict_answer (verdict k 0)

-- ---- open, with the plan string P

-- `of another length is 14 where it is read`
unfoldable pub opened_from : List ℕ → List ℕ → List ℕ → Answer
opened_from P ps ls = cond (eqb (length P) plan_size) (open_desk (plan_in (words_of P)) ps ls) (record { verdict = verdict not_sound 0; desk = blank_desk })

-- `13 where it is only written`, after 14
unfoldable pub open_verdict : Answer → Verdict
open_verdict a = cond (eqb a.verdict.number 0) (verdict too_short 0) a.verdict

unfoldable pub open_answer : List ℕ → List ℕ → List ℕ → List ℕ → FilmdiskAnswer
open_answer P ps ls D = let a = opened_from P ps ls in verdict_answer (cond (eqb (length D) desk_size) a.verdict (open_verdict a))

unfoldable pub open_string : List ℕ → List ℕ → List ℕ → List ℕ → List ℕ
open_string P ps ls D = cond (eqb (length D) desk_size) (with_words D 0 (desk_words (opened_from P ps ls).desk)) D

-- ---- the other calls: the call on the desk that the bytes say, written back. A desk of another length is 14

unfoldable pub said : List ℕ → Desk
said D = desk_in (words_of D)

-- the answer, and the desk string after it
unfoldable pub answer_by : List ℕ → FilmdiskAnswer → FilmdiskAnswer
answer_by D a = cond (eqb (length D) desk_size) a (refused_by not_sound)

unfoldable pub string_by : List ℕ → Desk → List ℕ
string_by D d = cond (eqb (length D) desk_size) (with_words D 0 (desk_words d)) D

unfoldable pub join_answer : List ℕ → List ℕ → List ℕ → ℕ → ℕ → ℕ → FilmdiskAnswer
join_answer D ps ls slot block film = answer_by D (verdict_answer (join_desk (said D) ps ls slot block film).verdict)

unfoldable pub join_string : List ℕ → List ℕ → List ℕ → ℕ → ℕ → ℕ → List ℕ
join_string D ps ls slot block film = string_by D (join_desk (said D) ps ls slot block film).desk

unfoldable pub leave_answer : List ℕ → List ℕ → List ℕ → ℕ → FilmdiskAnswer
leave_answer D ps ls slot = answer_by D (verdict_answer (leave_desk (said D) ps ls slot).verdict)

unfoldable pub leave_string : List ℕ → List ℕ → List ℕ → ℕ → List ℕ
leave_string D ps ls slot = string_by D (leave_desk (said D) ps ls slot).desk

unfoldable pub end_answer : List ℕ → List ℕ → List ℕ → List ℕ → FilmdiskAnswer
end_answer D ps ls draws = answer_by D (verdict_answer (end_desk (said D) ps ls draws).verdict)

unfoldable pub end_string : List ℕ → List ℕ → List ℕ → List ℕ → List ℕ
end_string D ps ls draws = string_by D (end_desk (said D) ps ls draws).desk

-- begin, with the fetch string F: whole entries of three words are its room
unfoldable pub room_in : List ℕ → ℕ
room_in F = length (words_of F) / 3

unfoldable pub begun_answer : Begun → FilmdiskAnswer
begun_answer b = record { number = b.verdict.number; place = b.verdict.place; count = b.fetches.count; bound = b.bound }

unfoldable pub begin_answer : List ℕ → List ℕ → List ℕ → List ℕ → FilmdiskAnswer
begin_answer D ps ls F = answer_by D (begun_answer (begin_desk (said D) ps ls (room_in F)))

unfoldable pub begin_string : List ℕ → List ℕ → List ℕ → List ℕ → List ℕ
begin_string D ps ls F = string_by D (begin_desk (said D) ps ls (room_in F)).desk

unfoldable pub fetch_string : List ℕ → List ℕ → List ℕ → List ℕ → List ℕ
fetch_string D ps ls F = cond (eqb (length D) desk_size) (fetch_list_after (said D) ps ls (room_in F) F) F

-- ---- the same with a scratch s in place of the lead list (document 02, ticket 10): 13 where it is too short, ahead of all else (T10.5), and
-- every string is left; else the call with the film's own leads (T10.2)

-- the film's own lead list, by a plan string and by a desk string
abbrev pub leads_of_plan : List ℕ → List ℕ
leads_of_plan P = plan_leads (plan_in (words_of P))

abbrev pub leads_of_desk : List ℕ → List ℕ
leads_of_desk D = desk_leads (said D)

-- an answer, and a string after the call
abbrev pub or_short : List ℕ → FilmdiskAnswer → FilmdiskAnswer
or_short s a = cond (scratch_short s) (refused_by too_short) a

abbrev pub or_kept : List ℕ → List ℕ → List ℕ → List ℕ
or_kept s old new = cond (scratch_short s) old new

unfoldable pub open_scratch_answer : List ℕ → List ℕ → List ℕ → List ℕ → FilmdiskAnswer
open_scratch_answer P ps s D = or_short s (open_answer P ps (leads_of_plan P) D)

unfoldable pub open_scratch_string : List ℕ → List ℕ → List ℕ → List ℕ → List ℕ
open_scratch_string P ps s D = or_kept s D (open_string P ps (leads_of_plan P) D)

unfoldable pub join_scratch_answer : List ℕ → List ℕ → List ℕ → ℕ → ℕ → ℕ → FilmdiskAnswer
join_scratch_answer D ps s slot block film = or_short s (join_answer D ps (leads_of_desk D) slot block film)

unfoldable pub join_scratch_string : List ℕ → List ℕ → List ℕ → ℕ → ℕ → ℕ → List ℕ
join_scratch_string D ps s slot block film = or_kept s D (join_string D ps (leads_of_desk D) slot block film)

unfoldable pub leave_scratch_answer : List ℕ → List ℕ → List ℕ → ℕ → FilmdiskAnswer
leave_scratch_answer D ps s slot = or_short s (leave_answer D ps (leads_of_desk D) slot)

unfoldable pub leave_scratch_string : List ℕ → List ℕ → List ℕ → ℕ → List ℕ
leave_scratch_string D ps s slot = or_kept s D (leave_string D ps (leads_of_desk D) slot)

unfoldable pub begin_scratch_answer : List ℕ → List ℕ → List ℕ → List ℕ → FilmdiskAnswer
begin_scratch_answer D ps s F = or_short s (begin_answer D ps (leads_of_desk D) F)

unfoldable pub begin_scratch_string : List ℕ → List ℕ → List ℕ → List ℕ → List ℕ
begin_scratch_string D ps s F = or_kept s D (begin_string D ps (leads_of_desk D) F)

unfoldable pub fetch_scratch_string : List ℕ → List ℕ → List ℕ → List ℕ → List ℕ
fetch_scratch_string D ps s F = or_kept s F (fetch_string D ps (leads_of_desk D) F)

unfoldable pub end_scratch_answer : List ℕ → List ℕ → List ℕ → List ℕ → FilmdiskAnswer
end_scratch_answer D ps s draws = or_short s (end_answer D ps (leads_of_desk D) draws)

unfoldable pub end_scratch_string : List ℕ → List ℕ → List ℕ → List ℕ → List ℕ
end_scratch_string D ps s draws = or_kept s D (end_string D ps (leads_of_desk D) draws)

-- ---- what a slot may draw in a sweep of this bound (D14): c × bound / 1,000,000 where it plays or is tail, else 0. A string of another
-- length has no slots, and a desk has 256

unfoldable pub draw_limit_of : List ℕ → ℕ → ℕ → ℕ
draw_limit_of D slot bound =
    cond (eqb (length D) desk_size && ltb slot max_streams)
    (kind_limit ((said D).plan.figures.rate * bound / micros) (get_or (said D).kinds slot 0))
    0
