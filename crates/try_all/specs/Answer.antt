-- The answers of the second planner for one showing and for a loop (document 02, ticket 12).
use Rattle.std.specs.Prelude.{ℕ, zero, suc, ◌≤◌, ◌≡◌, cond, ◌||◌, List, length, ltb, eqb}
use Rattle.numbers.specs.Limits.{max_tried}
use Rattle.numbers.specs.Refusals.{no_stream, film_too_long}
use Rattle.words.specs.Words.{words_of}
use Rattle.card.specs.declared.Figures.{Figures}
use Rattle.card.specs.declared.CardRead.{CardRead}
use Rattle.card.specs.Card.{length_in}
use Rattle.placement.specs.Showing.{Showing}
use Rattle.pacing.specs.Streams.{streams, cap_of}
use Rattle.plan.specs.Plan.{over_of}
use Rattle.plan.specs.Answer.{planned}
use Rattle.layings.specs.Layings.{least_of, count_of}
use Rattle.try_all.specs.declared.Tried.{Tried}

-- a shelf that is tried: no film but one, of at most 8 blocks
abbrev pub Few : Figures → Type 0
Few f = (f.films ≤ 1) × (length_in f 0 ≤ max_tried)

-- after the figures are accepted: 29 where the film has over 8 blocks, in 13's place (T12.4), or where there are more films (ticket 14), then 12
-- where by the formula of streams, with the smallest worst2 in it, not even one stream fits
unfoldable pub tried_fault : Showing → Figures → ℕ
tried_fault x f =
    cond (ltb 1 f.films || ltb max_tried (length_in f 0)) film_too_long
    (cond (eqb (streams (cap_of x) f.rate (least_of x f) (over_of x f) f.bytes) 0) no_stream 0)

-- a refusal; both figures are 0
unfoldable pub not_tried : ℕ → ℕ → Tried
not_tried k at = record { verdict = record { number = k; place = at }; worst2 = 0; count = 0 }

-- the answer by the number of the refusal of the figures and by that of 29 and 12. A refusal of the figures keeps its place; 29 and 12 answer with 0
abbrev pub tried_by : Showing → ℕ → ℕ → CardRead → Tried
tried_by x zero zero r = record { verdict = record { number = 0; place = 0 }; worst2 = least_of x r.figures; count = count_of x r.figures }
tried_by x zero (suc k) r = not_tried (suc k) 0
tried_by x (suc j) k r = not_tried (suc j) r.verdict.place

-- THE ANSWER, for figures as they were read or judged (T12.1)
unfoldable pub tried : Showing → CardRead → Tried
tried x r = tried_by x r.verdict.number (tried_fault x r.figures) r

-- where there is no film but one, of at most 8 blocks, and the planner's lists have room, both planners answer the same verdict and the same worst2
-- (T12.2)
abbrev pub SameAnswer : Showing → CardRead → Type 0
SameAnswer x r = (ps ls : List ℕ) → Few r.figures → length_in r.figures 0 ≤ length (words_of ps) → length_in r.figures 0 ≤ length (words_of ls)
    → ((tried x r).verdict ≡ (planned x r ps ls).verdict) × ((tried x r).worst2 ≡ (planned x r ps ls).plan.worst2)
