-- What the desk's calls answer, in document 01's words, without the functions that find it.
use Rattle.std.specs.Prelude.{ℕ, ◌+◌, ◌*◌, ◌≤◌, ◌<◌, ◌≡◌, ◌⊎◌, List, length, get_or}
use Rattle.numbers.specs.Limits.{max_streams}
use Rattle.numbers.specs.Slots.{filling, playing}
use Rattle.words.specs.Words.{words_of}
use Rattle.pacing.specs.Shelf.{film_in, block_in}
use Rattle.plan.specs.declared.Plan.{Plan}
use Rattle.plan.specs.Plan.{showing_in, position_in}
use Rattle.rules.specs.Scheduler.{Entry, at, most_drawn, draw_limit}
use Rattle.desk.specs.declared.Desk.{Desk}
use Rattle.desk.specs.Desk.{visits_in, supply_of, slots_in, fresh_desk, open_desk}

-- ---- an opening

-- D3: a plan and two lists are opened, and all slots are free
abbrev pub Opens : Plan → List ℕ → List ℕ → Type 0
Opens p ps ls = ((open_desk p ps ls).verdict.number ≡ 0) × ((open_desk p ps ls).desk ≡ fresh_desk p)

-- ---- the fetches of a begin

-- D9: slot i is filling or playing, and a block more fits its buffer
abbrev pub NeedsBlock : Desk → ℕ → Type 0
NeedsBlock d i =
    ((get_or d.kinds i 0 ≡ filling) ⊎ (get_or d.kinds i 0 ≡ playing)) × (get_or d.held i 0 + d.plan.figures.bytes ≤ d.plan.buffer)

abbrev pub blank_entry : Entry
blank_entry = record { position = 0; slot = 0; block = 0 }

abbrev pub entry_at : List Entry → ℕ → Entry
entry_at es k = get_or es k blank_entry

-- where visit v to the block of name a goes: a block is visited once, and two halves of it are where the plan says so (T11), each where its film
-- is laid (T14)
abbrev pub place_of : Plan → ℕ → ℕ → ℕ
place_of p a v = position_in (showing_in p) p.figures (film_in a) (visits_in p * block_in a + v)

-- D9, D10: d is the desk that a begin left, es are the entries that it answered
pub record Fetched (d : Desk) (es : List Entry) : Type 0 where
  -- each such slot has an entry for each visit to its next block
  pub each : (i : ℕ) → NeedsBlock d i → (v : ℕ) → v < visits_in d.plan
      → (k : ℕ) × (k < length es) × ((entry_at es k).slot ≡ i) × ((entry_at es k).position ≡ place_of d.plan (get_or d.next i 0) v)
  -- no other has: an entry names such a slot, its next block within its film and where a visit to that goes
  pub only : (k : ℕ) → k < length es
      → NeedsBlock d (entry_at es k).slot × ((entry_at es k).block ≡ block_in (get_or d.next (entry_at es k).slot 0))
      × ((v : ℕ) × (v < visits_in d.plan) × ((entry_at es k).position ≡ place_of d.plan (get_or d.next (entry_at es k).slot 0) v))
  -- by rising position, then slot; so no slot has two at one position
  pub order : (j k : ℕ) → j < k → k < length es
      → ((entry_at es j).position < (entry_at es k).position) ⊎ (((entry_at es j).position ≡ (entry_at es k).position) × ((entry_at es j).slot < (entry_at es k).slot))

-- ---- the draws of an end

-- the draw of slot i in a lent byte string
abbrev pub draw_at : List ℕ → ℕ → ℕ
draw_at draws i = get_or (words_of draws) i 0

-- D14: what slot i may draw
abbrev pub may_draw : Desk → ℕ → ℕ
may_draw d i = let p = supply_of d.plan in draw_limit p (most_drawn p (slots_in d)) (at p (slots_in d) i)

-- R20, R21: i is the lowest slot whose draw is above the limit
pub record LowestAbove (limit draw : ℕ → ℕ) (i : ℕ) : Type 0 where
  pub inside : i < max_streams
  pub above : limit i < draw i
  pub below : (j : ℕ) → j < i → draw j ≤ limit j
