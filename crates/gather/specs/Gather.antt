-- What is gathered of the list of positions and the zones for the slots of a record, by kinds ks.
-- Assumes nothing.
use Rattle.std.specs.Prelude.{ℕ, ◌+◌, ◌*◌, ◌≤◌, ◌<◌, ◌≡◌, ◌≢◌, List, length, get_or}
use Rattle.numbers.specs.Limits.{max_time}
use Rattle.numbers.specs.Slots.{filling, playing}
use Rattle.words.specs.Words.{words_of}
use Rattle.placement.specs.Zones.{total, time_at}
use Rattle.pacing.specs.Shelf.{film_in}
use Rattle.plan.specs.Disk.{Zoned}
use Rattle.plan.specs.Plan.{listed_at}
use Rattle.desk.specs.declared.Desk.{Desk}
use Rattle.desk.specs.Shown.{Gathered}
use Rattle.desk_columns.specs.Films.{ShelfSmall}
use Rattle.gather.specs.declared.Block.{Block}

-- the list of positions has entry j; it is on the disk, and its time in its range
pub record Spot (sizes times ps : List ℕ) (j : ℕ) : Type 0 where
  pub listed : j < length (words_of ps)
  pub within : get_or (words_of ps) j 0 < total sizes
  pub quick : time_at sizes times (get_or (words_of ps) j 0) ≤ max_time

-- it has the block of number x through the lists: one entry, or two where a block takes two visits
pub record Reach (sizes times ps : List ℕ) (visits x : ℕ) : Type 0 where
  pub alone : visits ≡ 1 → Spot sizes times ps x
  pub both : visits ≢ 1 → (Spot sizes times ps (2 * x)) × (Spot sizes times ps (2 * x + 1))

-- r is a block with one entry, j
pub record Whole (sizes times ps : List ℕ) (j : ℕ) (r : Block) : Type 0 where
  pub time : r.time ≡ time_at sizes times (get_or (words_of ps) j 0)
  pub position : r.position ≡ get_or (words_of ps) j 0
  pub other : r.other ≡ 0

-- r is a block with two, j and the next
pub record Halves (sizes times ps : List ℕ) (j : ℕ) (r : Block) : Type 0 where
  pub time : r.time ≡ time_at sizes times (get_or (words_of ps) j 0) + time_at sizes times (get_or (words_of ps) (j + 1) 0)
  pub position : r.position ≡ get_or (words_of ps) j 0
  pub other : r.other ≡ get_or (words_of ps) (j + 1) 0

-- r is block x
pub record Here (sizes times ps : List ℕ) (visits x : ℕ) (r : Block) : Type 0 where
  pub alone : visits ≡ 1 → Whole sizes times ps x r
  pub both : visits ≢ 1 → Halves sizes times ps (2 * x) r

-- nothing was found
pub record Nothing (r : Block) : Type 0 where
  pub time : r.time ≡ 0
  pub position : r.position ≡ 0
  pub other : r.other ≡ 0

-- what is found for a slot of kind k with next block x: nothing where it neither fills nor plays
pub record NextFound (sizes times ps : List ℕ) (visits k x : ℕ) (r : Block) : Type 0 where
  pub here : filling ≤ k → k ≤ playing → Here sizes times ps visits x r
  pub other : (filling ≤ k → k ≤ playing → ⊥) → Nothing r

-- the number through the lists of slot i's next block
abbrev pub next_number : Desk → ℕ → ℕ
next_number d i = listed_at d.plan.figures (get_or d.next i 0)

-- each of the first n slots of a record names a film of its shelf; the list has the next block of those that fill or play by kinds ks
pub record Reached (d : Desk) (ps : List ℕ) (visits : ℕ) (ks : List ℕ) (n : ℕ) : Type 0 where
  pub zoned : Zoned d.plan.figures.positions
  pub shelved : ShelfSmall d.plan.figures
  pub films : (i : ℕ) → i < n → film_in (get_or d.next i 0) < d.plan.figures.films
  pub here : (i : ℕ) → i < n → filling ≤ get_or ks i 0 → get_or ks i 0 ≤ playing
      → Reach d.plan.figures.positions d.plan.figures.times ps visits (next_number d i)

-- what three arrays hold
abbrev pub gathered : List ℕ → List ℕ → List ℕ → Gathered
gathered ts qs os = record { times = ts; positions = qs; others = os }

-- what was gathered for slot i
abbrev pub block_at : Gathered → ℕ → Block
block_at g i = record { time = get_or g.times i 0; position = get_or g.positions i 0; other = get_or g.others i 0 }

-- the next blocks of the first n slots, and nothing past them
pub record Collected (d : Desk) (ps : List ℕ) (visits : ℕ) (ks : List ℕ) (n : ℕ) (g : Gathered) : Type 0 where
  pub found : (i : ℕ) → i < n → NextFound d.plan.figures.positions d.plan.figures.times ps visits (get_or ks i 0) (next_number d i) (block_at g i)
  pub rest : (i : ℕ) → n ≤ i → Nothing (block_at g i)
