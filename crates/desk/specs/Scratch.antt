-- The calls of the desk with a scratch in place of the lead list (document 02, ticket 10): 13 where it is below 512 numbers, ahead of 14
-- (T10.5); else what the call answers with the film's own leads (T10.2). The scratch is asked nothing but its length (T10.3).
use Rattle.std.specs.Prelude.{ℕ, List, cond}
use Rattle.numbers.specs.Refusals.{too_short}
use Rattle.plan.specs.declared.Plan.{Plan}
use Rattle.plan.specs.Plan.{showing_in}
use Rattle.plan.specs.Scratch.{own_leads, scratch_short}
use Rattle.desk.specs.declared.Desk.{Desk}
use Rattle.desk.specs.declared.Answer.{Answer}
use Rattle.desk.specs.declared.Begun.{Begun}
use Rattle.desk.specs.Desk.{blank_desk, open_desk, join_desk, leave_desk, begin_desk, fetch_list_after, end_desk}
use Rattle.desk.specs.Records.{answers, not_begun}

-- the lead list of a plan's own film, and of a desk's
abbrev pub plan_leads : Plan → List ℕ
plan_leads p = own_leads (showing_in p) p.figures

abbrev pub desk_leads : Desk → List ℕ
desk_leads d = plan_leads d.plan

-- s is the scratch
unfoldable pub open_scratch : Plan → List ℕ → List ℕ → Answer
open_scratch p ps s = cond (scratch_short s) (answers blank_desk too_short 0) (open_desk p ps (plan_leads p))

unfoldable pub join_scratch : Desk → List ℕ → List ℕ → ℕ → ℕ → ℕ → Answer
join_scratch d ps s slot block film = cond (scratch_short s) (answers d too_short 0) (join_desk d ps (desk_leads d) slot block film)

unfoldable pub leave_scratch : Desk → List ℕ → List ℕ → ℕ → Answer
leave_scratch d ps s slot = cond (scratch_short s) (answers d too_short 0) (leave_desk d ps (desk_leads d) slot)

unfoldable pub end_scratch : Desk → List ℕ → List ℕ → List ℕ → Answer
end_scratch d ps s draws = cond (scratch_short s) (answers d too_short 0) (end_desk d ps (desk_leads d) draws)

-- room is the number of entries that the lent fetch list has
unfoldable pub begin_scratch : Desk → List ℕ → List ℕ → ℕ → Begun
begin_scratch d ps s room = cond (scratch_short s) (not_begun d too_short) (begin_desk d ps (desk_leads d) room)

-- the fetch list of bytes after a begin
unfoldable pub fetch_list_scratch : Desk → List ℕ → List ℕ → ℕ → List ℕ → List ℕ
fetch_list_scratch d ps s room out = cond (scratch_short s) out (fetch_list_after d ps (desk_leads d) room out)
