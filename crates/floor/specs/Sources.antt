-- Where the lead of a block comes from: the lent list, or the time of the block where a scratch stands in the list's place (T10.2).
-- Assumes nothing.
use Rattle.std.specs.Prelude.{ℕ, ◌*◌, ◌-◌, ◌≤◌, ◌<◌, ◌≡◌, Bool, true, false, cond, List, length, get_or}
use Rattle.numbers.specs.Limits.{max_time}
use Rattle.numbers.specs.Slots.{waiting, playing}
use Rattle.words.specs.Words.{words_of}
use Rattle.placement.specs.Zones.{total, time_at}
use Rattle.pacing.specs.Shelf.{film_in}
use Rattle.plan.specs.Disk.{Zoned}
use Rattle.plan.specs.Plan.{listed_at}
use Rattle.desk.specs.declared.Desk.{Desk}
use Rattle.desk_columns.specs.Films.{ShelfSmall}
use Rattle.floor.specs.Floor.{Small}

-- block b is in the list of positions ps, its position on the disk and its time in its range
pub record Placed (sizes times ps : List ℕ) (b : ℕ) : Type 0 where
  pub zoned : Zoned sizes
  pub here : b < length (words_of ps)
  pub within : get_or (words_of ps) b 0 < total sizes
  pub quick : time_at sizes times (get_or (words_of ps) b 0) ≤ max_time

-- the source has block b
pub record Sourced (listed : Bool) (sizes times ps ls : List ℕ) (b : ℕ) : Type 0 where
  pub list : listed ≡ true → b < length (words_of ls)
  pub place : listed ≡ false → Placed sizes times ps b

-- the lead that it gives, w being worst2
abbrev pub lead_from : Bool → List ℕ → List ℕ → ℕ → List ℕ → List ℕ → ℕ → ℕ
lead_from listed sizes times w ps ls b = cond listed (get_or (words_of ls) b 0) (2 * time_at sizes times (get_or (words_of ps) b 0) - w)

-- that of the next block of slot i of a record, by its number through the lists
abbrev pub leads_next : Bool → Desk → List ℕ → List ℕ → List ℕ → List ℕ → ℕ → ℕ
leads_next listed d sizes times ps ls i = lead_from listed sizes times d.plan.worst2 ps ls (listed_at d.plan.figures (get_or d.next i 0))

-- slot i names a film of the shelf, and the source has its next block
pub record NextSourced (listed : Bool) (d : Desk) (sizes times ps ls : List ℕ) (i : ℕ) : Type 0 where
  pub shelved : ShelfSmall d.plan.figures
  pub film : film_in (get_or d.next i 0) < d.plan.figures.films
  pub here : Sourced listed sizes times ps ls (listed_at d.plan.figures (get_or d.next i 0))

-- each of the first n slots names a film; the source has the next block of those that ask, fill or play, its lead in its range
pub record Found (listed : Bool) (d : Desk) (sizes times ps ls : List ℕ) (n : ℕ) : Type 0 where
  pub shelved : ShelfSmall d.plan.figures
  pub films : (i : ℕ) → i < n → film_in (get_or d.next i 0) < d.plan.figures.films
  pub here : (i : ℕ) → i < n → waiting ≤ get_or d.kinds i 0 → get_or d.kinds i 0 ≤ playing
      → Sourced listed sizes times ps ls (listed_at d.plan.figures (get_or d.next i 0))
  pub small : Small (leads_next listed d sizes times ps ls) d.kinds n
