-- What the plan calls, one for each showing, answer on byte strings, and what they leave in each.
use Rattle.std.specs.Prelude.{ℕ, ◌≡◌, List, Bool, cond, not, ◌&&◌, length, eqb}
use Rattle.numbers.specs.Refusals.{too_short}
use Rattle.words.specs.Words.{with_words}
use Rattle.card.specs.declared.CardRead.{CardRead}
use Rattle.card.specs.Read.{read_card}
use Rattle.placement.specs.Showing.{Showing, visits_of}
use Rattle.plan.specs.declared.Planned.{Planned}
use Rattle.plan.specs.Plan.{positions_of, leads_of}
use Rattle.plan.specs.Answer.{fault_after, answer, filled, planned, positions_after}
use Rattle.plan.specs.Scratch.{scratch_leads, leads_lent, lent_after}
use Rattle.plan_layout.specs.Layout.{plan_words, plan_size}
use Rattle.layout.specs.declared.FilmdiskAnswer.{FilmdiskAnswer}
use Rattle.layout.specs.Answers.{verdict_answer}

-- ---- plan: a card as it was read, the plan string p, and both lists

-- after the figures are accepted: 13 where the plan string has another length or a list is too short, then 12
unfoldable pub plan_fault_of : Showing → CardRead → List ℕ → List ℕ → List ℕ → ℕ
plan_fault_of x r p ps ls = cond (eqb (length p) plan_size) (fault_after x r ps ls) too_short

-- the planner's answer
unfoldable pub planned_of : Showing → CardRead → List ℕ → List ℕ → List ℕ → Planned
planned_of x r p ps ls = answer x r.verdict.number (plan_fault_of x r p ps ls) r

-- the plan string after an answer: the plan, all zero after 1 to 12, 25, 26, 28 and 30; as it was after 13, and where it has another length
unfoldable pub plan_filled : List ℕ → Planned → List ℕ
plan_filled p a = cond (eqb (length p) plan_size && not (eqb a.verdict.number too_short)) (with_words p 0 (plan_words a.plan)) p

-- THE ANSWER of a showing's plan call with a card s, and the three strings after it. A list has its entries written, or is left as it was
unfoldable pub plan_answer : Showing → List ℕ → List ℕ → List ℕ → List ℕ → FilmdiskAnswer
plan_answer x s p ps ls = verdict_answer (planned_of x (read_card (visits_of x) s) p ps ls).verdict

unfoldable pub plan_string : Showing → List ℕ → List ℕ → List ℕ → List ℕ → List ℕ
plan_string x s p ps ls = plan_filled p (planned_of x (read_card (visits_of x) s) p ps ls)

unfoldable pub positions_string : Showing → List ℕ → List ℕ → List ℕ → List ℕ → List ℕ
positions_string x s p ps ls = let r = read_card (visits_of x) s in filled r.verdict.number (plan_fault_of x r p ps ls) ps (positions_of x r.figures)

unfoldable pub leads_string : Showing → List ℕ → List ℕ → List ℕ → List ℕ → List ℕ
leads_string x s p ps ls = let r = read_card (visits_of x) s in filled r.verdict.number (plan_fault_of x r p ps ls) ls (leads_of x r.figures)

-- ---- with a scratch t in place of the lead list (document 02, ticket 10): as with the film's own leads, and with none where t is too short. The
-- scratch stays as it was

unfoldable pub plan_scratch_answer : Showing → List ℕ → List ℕ → List ℕ → List ℕ → FilmdiskAnswer
plan_scratch_answer x s p ps t = plan_answer x s p ps (scratch_leads x (read_card (visits_of x) s).figures t)

unfoldable pub plan_scratch_string : Showing → List ℕ → List ℕ → List ℕ → List ℕ → List ℕ
plan_scratch_string x s p ps t = plan_string x s p ps (scratch_leads x (read_card (visits_of x) s).figures t)

unfoldable pub positions_scratch_string : Showing → List ℕ → List ℕ → List ℕ → List ℕ → List ℕ
positions_scratch_string x s p ps t = positions_string x s p ps (scratch_leads x (read_card (visits_of x) s).figures t)

-- ---- both ways in, by whether there is a lead list; where there is none, ls is the scratch

-- the answer r of a call, and the later contents q, qs and ms of its strings
abbrev pub PlanCall : Bool → Showing → List ℕ → List ℕ → List ℕ → List ℕ → FilmdiskAnswer → List ℕ → List ℕ → List ℕ → Type 0
PlanCall listed x s p ps ls r q qs ms = let lent = leads_lent listed x (read_card (visits_of x) s).figures ls in
    (r ≡ plan_answer x s p ps lent) × (q ≡ plan_string x s p ps lent) × (qs ≡ positions_string x s p ps lent)
    × (ms ≡ cond listed (leads_string x s p ps ls) ls)

-- the same where the plan string has its length, of a card as it was read
abbrev pub ReadCall : Bool → Showing → CardRead → List ℕ → List ℕ → List ℕ → FilmdiskAnswer → List ℕ → List ℕ → List ℕ → Type 0
ReadCall listed x c p ps ls r q qs ms = let lent = leads_lent listed x c.figures ls in
    (r ≡ verdict_answer (planned x c ps lent).verdict) × (q ≡ plan_filled p (planned x c ps lent)) × (qs ≡ positions_after x c ps lent)
    × (ms ≡ lent_after listed x c ps ls)
