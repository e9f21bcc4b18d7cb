-- A scratch in place of the lead list (document 02, ticket 10). A call with a scratch answers what the same call answers with the film's own
-- leads (T10.2); of the scratch nothing but its length is asked (T10.3).
use Rattle.std.specs.Prelude.{ℕ, ◌*◌, List, [], Bool, cond, ◌||◌, length, ltb}
use Rattle.numbers.specs.Limits.{scratch_length}
use Rattle.words.specs.Words.{words_of, bytes_of}
use Rattle.card.specs.declared.Figures.{Figures}
use Rattle.card.specs.declared.CardRead.{CardRead}
use Rattle.placement.specs.Showing.{Showing}
use Rattle.plan.specs.declared.Plan.{Plan}
use Rattle.plan.specs.declared.Planned.{Planned}
use Rattle.plan.specs.Plan.{showing_in, leads_of}
use Rattle.plan.specs.Answer.{planned, positions_after, leads_after}

-- the films' own lead list, as bytes
unfoldable pub own_leads : Showing → Figures → List ℕ
own_leads x f = bytes_of (leads_of x f)

-- `a scratch below 512` (T10.5)
unfoldable pub scratch_short : List ℕ → Bool
scratch_short s = ltb (length (words_of s)) scratch_length

-- ---- the planner (T10.1)

-- the lead list in whose place a scratch stands: the films' own, or none where the scratch is too short, which is then 13 in 13's place
unfoldable pub scratch_leads : Showing → Figures → List ℕ → List ℕ
scratch_leads x f s = cond (scratch_short s) [] (own_leads x f)

-- the answer with a scratch s, and the positions list after it; the scratch stays as it was (T10.4)
unfoldable pub planned_scratch : Showing → CardRead → List ℕ → List ℕ → Planned
planned_scratch x r ps s = planned x r ps (scratch_leads x r.figures s)

unfoldable pub positions_scratch : Showing → CardRead → List ℕ → List ℕ → List ℕ
positions_scratch x r ps s = positions_after x r ps (scratch_leads x r.figures s)

-- ---- both ways in, by whether there is a lead list

-- what is lent to the planner
abbrev pub leads_lent : Bool → Showing → Figures → List ℕ → List ℕ
leads_lent listed x f ls = cond listed ls (scratch_leads x f ls)

-- and what it holds after the call
abbrev pub lent_after : Bool → Showing → CardRead → List ℕ → List ℕ → List ℕ
lent_after listed x r ps ls = cond listed (leads_after x r ps ls) ls

-- the entries asked of it: n of a lead list, one for each block, 512 of a scratch
abbrev pub entries_asked : Bool → ℕ → ℕ
entries_asked listed n = cond listed n scratch_length

-- is it too short, or the positions list of n blocks with v positions each?
abbrev pub lists_short : Bool → ℕ → ℕ → List ℕ → List ℕ → Bool
lists_short listed v n ps ls = ltb (length (words_of ps)) (v * n) || ltb (length (words_of ls)) (entries_asked listed n)

-- the lead list that a call of the desk goes by
abbrev pub leads_by : Bool → Plan → List ℕ → List ℕ
leads_by listed p ls = cond listed ls (own_leads (showing_in p) p.figures)
