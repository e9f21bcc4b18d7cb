-- The answers of the planner for every showing, the later contents of both lists, and the test that a record is the plan of its figures.
use Rattle.std.specs.Prelude.{ℕ, zero, suc, List, [], ◌∷◌, Bool, true, false, cond, ◌&&◌, ◌||◌, length, ltb, eqb}
use Rattle.numbers.specs.Refusals.{too_short, no_stream}
use Rattle.card.specs.declared.Figures.{Figures}
use Rattle.card.specs.declared.CardRead.{CardRead}
use Rattle.card.specs.Card.{blocks_of, record_fault, judge_record}
use Rattle.words.specs.Words.{words_of, with_words}
use Rattle.placement.specs.Showing.{Showing, visits_of}
use Rattle.plan.specs.declared.Plan.{Plan}
use Rattle.plan.specs.declared.Planned.{Planned}
use Rattle.plan.specs.Plan.{showing_in, entries_of, streams_of, plan_of, blank_plan, positions_of, leads_of}

-- ---- the answer

-- after the figures are accepted: 13 where a lent list, of np or nl entries, is too short, then 12 where 'not even one stream fits'
unfoldable pub plan_fault : Showing → Figures → ℕ → ℕ → ℕ
plan_fault x f np nl = cond (ltb np (entries_of x f) || ltb nl (blocks_of f)) too_short (cond (eqb (streams_of x f) 0) no_stream 0)

abbrev pub fault_after : Showing → CardRead → List ℕ → List ℕ → ℕ
fault_after x r ps ls = plan_fault x r.figures (length (words_of ps)) (length (words_of ls))

-- a refusal; 'A plan .. in a refused answer is all zero'
unfoldable pub refusal : ℕ → ℕ → Planned
refusal k at = record { verdict = record { number = k; place = at }; plan = blank_plan }

-- the answer by the number of the refusal of the figures and by that of 13 and 12. A refusal of the figures keeps its place; 13 and 12
-- answer with 0
abbrev pub answer : Showing → ℕ → ℕ → CardRead → Planned
answer x zero zero r = record { verdict = record { number = 0; place = 0 }; plan = plan_of x r.figures }
answer x zero (suc k) r = refusal (suc k) 0
answer x (suc j) k r = refusal (suc j) r.verdict.place

-- a list by the same two numbers: its first entries are written, or it is left as it was
abbrev pub filled : ℕ → ℕ → List ℕ → List ℕ → List ℕ
filled zero zero s vs = with_words s 0 vs
filled zero (suc k) s vs = s
filled (suc j) k s vs = s

-- THE ANSWER, and both lists after the call, for figures as they were read or judged
unfoldable pub planned : Showing → CardRead → List ℕ → List ℕ → Planned
planned x r ps ls = answer x r.verdict.number (fault_after x r ps ls) r

unfoldable pub positions_after : Showing → CardRead → List ℕ → List ℕ → List ℕ
positions_after x r ps ls = filled r.verdict.number (fault_after x r ps ls) ps (positions_of x r.figures)

unfoldable pub leads_after : Showing → CardRead → List ℕ → List ℕ → List ℕ
leads_after x r ps ls = filled r.verdict.number (fault_after x r ps ls) ls (leads_of x r.figures)

-- a record's figures, judged for blocks of k positions each: 3 to 10, 25, 26, 28 and 30, offset 0
unfoldable pub judged : ℕ → Figures → CardRead
judged k f = record { verdict = judge_record k f; figures = f }

-- ---- is this the plan of its figures

-- a list begins with the given entries (a shorter list does not)
unfoldable pub begins : List ℕ → List ℕ → Bool
begins [] ws = true
begins (v ∷ vs) [] = false
begins (v ∷ vs) (w ∷ ws) = eqb w v && begins vs ws

-- two plans have the same streams, buffer, worst2, margin, showing (T7.7) and worstat (T2.2)
abbrev pub same_numbers : Plan → Plan → Bool
same_numbers p q =
    eqb p.streams q.streams
    && (eqb p.buffer q.buffer && (eqb p.worst2
    q.worst2 && (eqb p.margin q.margin && (eqb p.showing q.showing && eqb p.worstat q.worstat))))

-- the figures are legal and feed a stream, and the record has their numbers in the showing that it names
unfoldable pub has_numbers : Plan → Bool
has_numbers p =
    eqb (record_fault (visits_of (showing_in p)) p.figures) 0
    && (ltb 0 (streams_of (showing_in p) p.figures) && same_numbers p (plan_of (showing_in p) p.figures))

-- a list begins with the films' positions, one with their leads
unfoldable pub has_positions : Plan → List ℕ → Bool
has_positions p ps = begins (positions_of (showing_in p) p.figures) (words_of ps)

unfoldable pub has_leads : Plan → List ℕ → Bool
has_leads p ls = begins (leads_of (showing_in p) p.figures) (words_of ls)

-- 'it is the plan of its figures, both lists begin with its entries'
unfoldable pub is_plan : Plan → List ℕ → List ℕ → Bool
is_plan p ps ls = has_numbers p && (has_positions p ps && has_leads p ls)
