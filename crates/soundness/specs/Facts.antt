-- What the test of a record tells, as facts on its numbers.
-- Assumes nothing.
use Rattle.std.specs.Prelude.{ℕ, ◌*◌, ◌≤◌, ◌<◌, ◌≡◌, ◌≢◌, Bool, true, false, ◌&&◌, List, get_or, take}
use Rattle.numbers.specs.Limits.{max_blocks, max_streams}
use Rattle.numbers.specs.Slots.{free, waiting, playing, draining}
use Rattle.numbers.specs.Showings.{loop_word}
use Rattle.numbers.specs.Units.{parts}
use Rattle.card.specs.declared.Figures.{Figures}
use Rattle.card.specs.Card.{length_in}
use Rattle.pacing.specs.Shelf.{film_in, block_in}
use Rattle.plan.specs.declared.Plan.{Plan}
use Rattle.plan.specs.Plan.{showing_in, listed_at, lead_of}
use Rattle.plan.specs.Names.{Named}
use Rattle.plan.specs.Answer.{is_plan}
use Rattle.plan.specs.Scratch.{leads_by}
use Rattle.rules.specs.Sound.{sound}
use Rattle.desk.specs.declared.Desk.{Desk}
use Rattle.desk.specs.Desk.{supply_of, order_of, view_of}
use Rattle.desk.specs.Asked.{asked_count}
use Rattle.floor.specs.Floor.{most_lead, LeadsSummed}
use Rattle.floor.specs.Sources.{Sourced, lead_from}
use Rattle.soundness.specs.declared.Test.{Test}

-- the phase and the slots are sound
abbrev pub slots_sound : Desk → Bool
slots_sound d = sound (supply_of d.plan) (order_of d.plan) (view_of d)

-- THE RECORD IS SOUND with its lent lists
abbrev pub sound_desk : Desk → List ℕ → List ℕ → Bool
sound_desk d ps ls = is_plan d.plan ps ls && slots_sound d

-- what the test of a record answers: whether it is sound, and then the sum of its leads
pub record TestIs (d : Desk) (ps ls : List ℕ) (r : Test) : Type 0 where
  pub sound : r.sound ≡ sound_desk d ps ls
  pub leads : r.sound ≡ true → LeadsSummed d r.leads

-- a test tells whether a fact holds
pub record Tells (r : Bool) (P : Type 0) : Type 0 where
  pub yes : r ≡ true → P
  pub no : r ≡ false → P → ⊥

-- k is the greatest kind of a slot: in a loop, which the plan's word w tells, none is tail (T7.8)
abbrev pub LastKind : ℕ → ℕ → Type 0
LastKind w k = (w ≡ loop_word → k ≡ playing) × (w ≢ loop_word → k ≡ draining)

-- a slot's kind k, the word x for its film and next block, and held bytes h, but for the low-water mark: `each kind is 0 to 4, free slots .. are
-- zero, asked slots hold 0, next is below N for kinds 1 to 3 and N for tail, tail holds 1 or more, no slot holds above the buffer`, N being that of
-- the slot's own film, which the shelf has (document 02, ticket 14). In a loop, which the plan's word w tells, none is tail (T7.8)
pub record Tidy (w : ℕ) (f : Figures) (buffer k x h : ℕ) : Type 0 where
  pub kinds : k ≤ draining
  pub zeros : k ≡ free → (x ≡ 0) × (h ≡ 0)
  pub empty : k ≡ waiting → h ≡ 0
  pub named : waiting ≤ k → k ≤ playing → Named f x
  pub ends : k ≡ draining → w ≢ loop_word
  pub past : k ≡ draining → (film_in x < f.films) × (block_in x ≡ length_in f (film_in x))
  pub some : k ≡ draining → 1 ≤ h
  pub fits : h ≤ buffer

-- the same of a film of N blocks, x being the block within it
pub record TidyWithin (w N buffer k x h : ℕ) : Type 0 where
  pub kinds : k ≤ draining
  pub zeros : k ≡ free → (x ≡ 0) × (h ≡ 0)
  pub empty : k ≡ waiting → h ≡ 0
  pub named : waiting ≤ k → k ≤ playing → x < N
  pub ends : k ≡ draining → w ≢ loop_word
  pub past : k ≡ draining → x ≡ N
  pub some : k ≡ draining → 1 ≤ h
  pub fits : h ≤ buffer

-- the word x of a slot of kind k names a film of F, and is 0 in a free slot
pub record WellNamed (F k x : ℕ) : Type 0 where
  pub film : film_in x < F
  pub free : k ≡ free → x ≡ 0

-- the shelf has one film, of so few blocks that each is its own name
pub record OneFilm (f : Figures) : Type 0 where
  pub one : f.films ≡ 1
  pub few : length_in f 0 ≤ max_blocks

-- there is a film, and one alone where so
pub record Shelved (one : Bool) (f : Figures) : Type 0 where
  pub some : 0 < f.films
  pub alone : one ≡ true → OneFilm f

-- the slots from n on and below m are zero
abbrev pub RestZero : Desk → ℕ → ℕ → Type 0
RestZero d n m = (i : ℕ) → i < m → n ≤ i
    → (get_or d.kinds i 0 ≡ free) × (get_or d.next i 0 ≡ 0) × (get_or d.held i 0 ≡ 0) × (get_or d.places i 0 ≡ 0)

-- slot i of a record is tidy
abbrev pub TidyAt : Desk → ℕ → Type 0
TidyAt d i = Tidy d.plan.showing d.plan.figures d.plan.buffer (get_or d.kinds i 0) (get_or d.next i 0) (get_or d.held i 0)

-- the 256 slots of a record are tidy, and `all slots from n on are zero`
pub record AllTidy (d : Desk) : Type 0 where
  pub slots : (i : ℕ) → i < max_streams → TidyAt d i
  pub unused : (i : ℕ) → i < max_streams → d.plan.streams ≤ i → get_or d.kinds i 0 ≡ free
  pub idle : (i : ℕ) → i < max_streams → d.plan.streams ≤ i → get_or d.places i 0 ≡ 0

-- where c ask, the place x of a slot that asks is one of theirs, and that of a slot of another kind k is 0
pub record PlacedBy (c k x : ℕ) : Type 0 where
  pub taken : k ≡ waiting → (0 < x) × (x ≤ c)
  pub idle : k ≢ waiting → x ≡ 0

-- `the places of asked slots are 1 up to their count, each once, and all others 0` (document 02, ticket 5), among the first n slots
pub record Placed (c n : ℕ) (ks qs : List ℕ) : Type 0 where
  pub each : (i : ℕ) → i < n → PlacedBy c (get_or ks i 0) (get_or qs i 0)
  pub apart : (i j : ℕ) → i < n → j < n → 0 < get_or qs i 0 → get_or qs i 0 ≡ get_or qs j 0 → i ≡ j

-- its half: `all others 0`
abbrev pub OthersIdle : ℕ → List ℕ → List ℕ → Type 0
OthersIdle n ks qs = (i : ℕ) → i < n → get_or ks i 0 ≢ waiting → get_or qs i 0 ≡ 0

-- what the test of the first n slots of a record tells: each is tidy and has no place where it does not ask, and how many ask
pub record FirstTold (d : Desk) (n : ℕ) (tidy : Bool) (asked : ℕ) : Type 0 where
  pub slots : Tells tidy (((i : ℕ) → i < n → TidyAt d i) × OthersIdle n d.kinds d.places)
  pub count : (asked ≡ asked_count (take n d.kinds)) × (asked ≤ n)

-- what the test of the slots of a record tells, n being read: tidy, and then how many of the first n ask
pub record Told (d : Desk) (n : ℕ) (tidy : Bool) (asked : ℕ) : Type 0 where
  pub slots : Tells tidy (AllTidy d × OthersIdle n d.kinds d.places)
  pub count : tidy ≡ true → (asked ≡ asked_count (take n d.kinds)) × (asked ≤ n)

-- a source of leads, with a list or without one, has those of plan p: each block by its name, its lead, and that in its range
pub record LeadSource (listed : Bool) (p : Plan) (ps ls : List ℕ) : Type 0 where
  pub here : (a : ℕ) → Named p.figures a → Sourced listed p.figures.positions p.figures.times ps ls (listed_at p.figures a)
  pub says : (a : ℕ) → Named p.figures a
      → lead_from listed p.figures.positions p.figures.times p.worst2 ps ls (listed_at p.figures a) ≡ lead_of (showing_in p) p.figures a
  pub small : (a : ℕ) → Named p.figures a → lead_of (showing_in p) p.figures a ≤ most_lead

-- the zones of a record as they were read
abbrev pub ZonesRead : Desk → List ℕ → List ℕ → Type 0
ZonesRead d sizes times = (sizes ≡ d.plan.figures.positions) × (times ≡ d.plan.figures.times)

-- `each playing slot holds at least the floor` among the first n, x being the floor in two-millionths of a byte
abbrev pub PlayersHold : ℕ → List ℕ → List ℕ → ℕ → Type 0
PlayersHold n ks hs x = (i : ℕ) → i < n → get_or ks i 0 ≡ playing → x ≤ parts * get_or hs i 0

-- a tidy record whose plan passes, with the zones and n as they were read: its leads can be added up
pub record Summable (listed : Bool) (d : Desk) (n : ℕ) (sizes times ps ls : List ℕ) : Type 0 where
  pub streams : n ≡ d.plan.streams
  pub zones : ZonesRead d sizes times
  pub plan : is_plan d.plan ps (leads_by listed d.plan ls) ≡ true
  pub tidy : AllTidy d
