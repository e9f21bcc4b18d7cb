-- The calls of the desk on its record: each is the abstract scheduler's answer (crate rules, where document 01's rules stand) over the
-- supply of the record's plan.
use Rattle.std.specs.Prelude.{ℕ, suc, ◌+◌, ◌-◌, List, [], ◌∷◌, ◌++◌, map, Bool, true, false, cond, length, replicate, ltb, eqb}
use Rattle.numbers.specs.Limits.{max_streams}
use Rattle.numbers.specs.Refusals.{not_sound}
use Rattle.card.specs.declared.Verdict.{Verdict}
use Rattle.words.specs.Words.{words_of, with_words}
use Rattle.placement.specs.Showing.{Showing, visits_of}
use Rattle.pacing.specs.Shelf.{name_of}
use Rattle.plan.specs.declared.Plan.{Plan}
use Rattle.plan.specs.Plan.{showing_in, worst2_of, over_of, film_of, blank_plan}
use Rattle.plan.specs.Answer.{is_plan}
use Rattle.rules.specs.Supply.{Supply}
use Rattle.rules.specs.Scheduler.{Slot, Entry, Call, join, leave, begin, end}
use Rattle.rules.specs.Order.{Scheduler, Order, by_place}
use Rattle.rules.specs.Calls as C
use Rattle.rules.specs.Arrays.{slots_of}
use Rattle.desk.specs.Supply.{Rates, supplied}
use Rattle.desk.specs.declared.Desk.{Desk}
use Rattle.desk.specs.declared.Answer.{Answer}
use Rattle.desk.specs.declared.Fetches.{Fetches}
use Rattle.desk.specs.declared.Begun.{Begun}

-- how many visits to the disk a block takes
abbrev pub visits_in : Plan → ℕ
visits_in p = visits_of (showing_in p)

-- the rates of a plan record in a showing: those of its figures, and the streams, margin and buffer that it says
abbrev pub rates_in : Showing → Plan → Rates
rates_in x p = record {
  B = p.figures.bytes;
  c = p.figures.rate;
  overhead = over_of x p.figures;
  visits = visits_of x;
  n = p.streams;
  margin = p.margin;
  buffer = p.buffer;
}

-- in its own
abbrev pub rates_of : Plan → Rates
rates_of p = rates_in (showing_in p) p

-- what a plan record tells the desk: its figures' films as they are laid for the showing that it names (T7.7), with these rates
unfoldable pub supply_of : Plan → Supply ℕ
supply_of p = supplied (film_of (showing_in p) p.figures) (worst2_of (showing_in p) p.figures) (rates_of p)

-- ---- the order of granting, and the rules

-- what the desk keeps beside its slots for the order of granting: their places (document 02, ticket 5)
abbrev pub Queue : Type 0
Queue = List ℕ

-- `granted eldest first`
abbrev pub order_of : Plan → Order ℕ Queue
order_of p = by_place (supply_of p)

-- the table of refusals
abbrev pub rules_of : Plan → C.Rules ℕ Queue (C.Given ℕ)
rules_of p = C.refusals (supply_of p) (order_of p)

-- ---- the record as the rules see it

-- its slots, and the whole of it
abbrev pub slots_in : Desk → List (Slot ℕ)
slots_in d = slots_of (supply_of d.plan) d.kinds d.next d.held

unfoldable pub view_of : Desk → Scheduler ℕ Queue
view_of d = record { phase = d.phase; slots = slots_in d; queue = d.places }

-- the record of a plan with the phase, the slots and the places that the rules give
unfoldable pub desk_of : Plan → Scheduler ℕ Queue → Desk
desk_of p s = record {
  plan = p;
  phase = s.phase;
  kinds = map (λ x. x.kind) s.slots;
  next = map (λ x. x.next) s.slots;
  held = map (λ x. x.buffered) s.slots;
  places = s.queue;
}

-- ---- open

-- 256 zeros: an array made by a repeat expression
unfoldable pub zeros : List ℕ
zeros = replicate max_streams 0

-- a desk of a plan, between sweeps, all slots free
unfoldable pub fresh_desk : Plan → Desk
fresh_desk p = record { plan = p; phase = 0; kinds = zeros; next = zeros; held = zeros; places = zeros }

-- `the new desk all zero when refused`
unfoldable pub blank_desk : Desk
blank_desk = fresh_desk blank_plan

abbrev pub verdict : ℕ → ℕ → Verdict
verdict k i = record { number = k; place = i }

-- `it opens between sweeps, from a plan and its lists; if these are not the plan of its figures, 14`
abbrev pub open_by : Bool → Plan → Answer
open_by true p = record { verdict = verdict 0 0; desk = fresh_desk p }
open_by false p = record { verdict = verdict not_sound 0; desk = blank_desk }

unfoldable pub open_desk : Plan → List ℕ → List ℕ → Answer
open_desk p ps ls = open_by (is_plan p ps ls) p

-- ---- join, leave, begin, end

-- the rules' answer to a call with two lent lists, and room for so many fetch entries
unfoldable pub answer_of : Desk → List ℕ → List ℕ → ℕ → Call ℕ → C.Answer ℕ Queue
answer_of d ps ls room call =
    let s = supply_of d.plan in
    C.answer s (order_of d.plan) (rules_of d.plan) (view_of d) (record { call = call; fair = is_plan d.plan ps ls; room = room })

unfoldable pub answered : Desk → C.Answer ℕ Queue → Answer
answered d a = record { verdict = verdict a.number a.place; desk = desk_of d.plan a.scheduler }

-- a join names a film and a block of it (document 02, ticket 14)
unfoldable pub join_desk : Desk → List ℕ → List ℕ → ℕ → ℕ → ℕ → Answer
join_desk d ps ls slot block film = answered d (answer_of d ps ls 0 (join slot (name_of film block)))

unfoldable pub leave_desk : Desk → List ℕ → List ℕ → ℕ → Answer
leave_desk d ps ls slot = answered d (answer_of d ps ls 0 (leave slot))

-- the draws are the whole entries of a lent byte string
unfoldable pub end_desk : Desk → List ℕ → List ℕ → List ℕ → Answer
end_desk d ps ls draws = answered d (answer_of d ps ls 0 (end (words_of draws)))

-- numbers in an array of 256, and zeros past them
unfoldable pub array : List ℕ → List ℕ
array xs = xs ++ replicate (max_streams - length xs) 0

unfoldable pub fetches_of : List Entry → Fetches
fetches_of es = record {
  count = length es;
  positions = array (map (λ e. e.position) es);
  slots = array (map (λ e. e.slot) es);
  blocks = array (map (λ e. e.block) es);
}

-- room is the number of entries that the lent fetch list has
unfoldable pub begin_desk : Desk → List ℕ → List ℕ → ℕ → Begun
begin_desk d ps ls room =
    let a = answer_of d ps ls room begin in
    record {
      verdict = verdict a.number a.place;
      desk = desk_of d.plan a.scheduler;
      bound = a.bound;
      fetches = fetches_of a.entries;
    }

-- the entries that a begin answers, and as numbers: position, slot and block of each
abbrev pub entries_of : Desk → List ℕ → List ℕ → ℕ → List Entry
entries_of d ps ls room = (answer_of d ps ls room begin).entries

unfoldable pub entry_words : List Entry → List ℕ
entry_words [] = []
entry_words (e ∷ es) = e.position ∷ e.slot ∷ e.block ∷ entry_words es

-- a lent fetch list of bytes after a begin: its first entries are written, the others and the spare bytes stay
unfoldable pub fetch_list_after : Desk → List ℕ → List ℕ → ℕ → List ℕ → List ℕ
fetch_list_after d ps ls room out = with_words out 0 (entry_words (entries_of d ps ls room))
