-- What the grants are told of the slots of a supply: kinds ks, next blocks xs, held bytes hs, places qs.
-- Assumes nothing.
use Rattle.std.specs.Prelude.{ℕ, ◌+◌, ◌*◌, ◌≤◌, ◌<◌, ◌≡◌, Bool, List, get_or}
use Rattle.numbers.specs.Limits.{max_bytes, max_rate, max_streams}
use Rattle.rules.specs.Supply.{Supply}
use Rattle.numbers.specs.Slots.{waiting}
use Rattle.numbers.specs.Units.{parts}
use Rattle.rules.specs.Scheduler.{Slot, leads, low_water}
use Rattle.rules.specs.Order.{Begun}
use Rattle.rules.specs.Arrays.{slots_of}
use Rattle.turns.specs.Turns.{least_held}
use Rattle.turns.specs.Places.{Places}
use Rattle.desk.specs.declared.Desk.{Desk}
use Rattle.desk_columns.specs.Films.{ShelfSmall}
use Rattle.floor.specs.Floor.{most_lead, ample}
use Rattle.floor.specs.Sources.{NextSourced, leads_next}

-- no floor is above it
abbrev pub most_floor : ℕ
most_floor = parts * max_bytes + max_rate * (max_streams * most_lead)

-- the leads of the next blocks of a record's slots, by the slot, from a list or without one
abbrev pub leads_by_slot : Bool → Desk → List ℕ → List ℕ → ℕ → ℕ
leads_by_slot listed d ps ls = leads_next listed d d.plan.figures.positions d.plan.figures.times ps ls

-- the source has those of so many slots in a line, and they are in their range
pub record InLine (listed : Bool) (d : Desk) (ps ls line : List ℕ) (count : ℕ) : Type 0 where
  pub shelved : ShelfSmall d.plan.figures
  pub here : (k : ℕ) → 0 < k → k ≤ count → NextSourced listed d d.plan.figures.positions d.plan.figures.times ps ls (get_or line k 0)
  pub small : (k : ℕ) → 0 < k → k ≤ count → leads_by_slot listed d ps ls (get_or line k 0) ≤ most_lead

-- the places are sound, and g has the lead of each asked slot's next block, by the slot
pub record Asked (p : Supply ℕ) (g : ℕ → ℕ) (ks xs hs qs : List ℕ) : Type 0 where
  pub places : Places p (slots_of p ks xs hs) qs
  pub own : (i : ℕ) → i < max_streams → get_or ks i 0 ≡ waiting → g i ≡ p.lead (get_or xs i p.none)

-- c is the supply's, floor and level those of the slots
pub record Asks (p : Supply ℕ) (c floor level : ℕ) (g : ℕ → ℕ) (ks xs hs qs : List ℕ) : Type 0 where
  pub asked : Asked p g ks xs hs qs
  pub rate : c ≡ p.c
  pub mark : floor ≡ low_water p (leads p (slots_of p ks xs hs))
  pub least : level ≡ parts * least_held p ample (slots_of p ks xs hs)

-- the slots and the places that a begin leaves
abbrev pub served_to : List (Slot ℕ) → List ℕ → Begun ℕ (List ℕ)
served_to ss qs = record { slots = ss; queue = qs }
