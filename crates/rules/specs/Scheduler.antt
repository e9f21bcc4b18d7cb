-- The scheduler (01: the desk): its slots, and what join, leave, begin and end make of them (D2 to D14, in that order).
-- Assumes nothing.
use Rattle.std.specs.Prelude.{ℕ, zero, suc, ◌+◌, ◌-◌, ◌*◌, ◌/◌, Bool, true, false, cond, ◌&&◌, ◌||◌, List, [], ◌∷◌, ◌++◌, map, get_or, set, leb, ltb, eqb}
use Rattle.laws.specs.Bools.{bit, implies}
use Rattle.laws.specs.Map.{map_from}
use Rattle.laws.specs.Runs.{sum_by, all_by}
use Rattle.numbers.specs.Slots.{free, waiting, filling, playing, draining}
use Rattle.numbers.specs.Units.{parts, micros}
use Rattle.rules.specs.Supply.{Supply}

-- a slot (D2); buffered is what it holds
pub record Slot (A : Type 0) : Type 0 where
  pub kind : ℕ
  pub next : A
  pub buffered : ℕ

-- an entry of the fetch list (D10)
pub record Entry : Type 0 where
  pub position : ℕ
  pub slot : ℕ
  pub block : ℕ

-- join gives a slot and a start block, leave a slot, end a draw for each slot
pub data Call (A : Type 0) : Type 0 where
  join : ℕ → A → Call A
  leave : ℕ → Call A
  begin : Call A
  end : List ℕ → Call A

-- ---- the order of the entries (D10)

unfoldable pub before : Entry → Entry → Bool
before a b = ltb a.position b.position || (eqb a.position b.position && leb a.slot b.slot)

unfoldable pub insert : Entry → List Entry → List Entry
insert e [] = e ∷ []
insert e (f ∷ fs) = cond (before e f) (e ∷ f ∷ fs) (f ∷ insert e fs)

unfoldable pub sorted : List Entry → List Entry
sorted [] = []
sorted (e ∷ es) = insert e (sorted es)

-- the entries of block b for slot i, one for each position
unfoldable pub entries_at : ℕ → ℕ → List ℕ → List Entry
entries_at i b [] = []
entries_at i b (q ∷ qs) = record { position = q; slot = i; block = b } ∷ entries_at i b qs

module _ {A : Type 0} (p : Supply A) where
  -- free, all zero (D6)
  abbrev pub free_slot : Slot A
  free_slot = record { kind = free; next = p.none; buffered = 0 }

  abbrev pub at : List (Slot A) → ℕ → Slot A
  at ss i = get_or ss i free_slot

  -- filling or playing
  unfoldable pub reads : Slot A → Bool
  reads s = eqb s.kind filling || eqb s.kind playing

  -- ---- the low-water mark (01: the floor; D4), in parts of a byte, so that nothing is rounded

  -- the lead at the next block of a filling or playing slot
  unfoldable pub lead_of : Slot A → ℕ
  lead_of s = cond (reads s) (p.lead s.next) 0

  unfoldable pub leads : List (Slot A) → ℕ
  leads ss = sum_by lead_of ss

  -- L is the sum of the leads
  unfoldable pub low_water : ℕ → ℕ
  low_water L = parts * p.B + p.c * L

  -- the slot holds at least the mark x
  unfoldable pub holds : ℕ → Slot A → Bool
  holds x s = leb x (parts * s.buffered)

  -- ---- join (D5) and leave (D6)

  abbrev pub waiting_slot : A → Slot A
  waiting_slot b = record { kind = waiting; next = b; buffered = 0 }

  unfoldable pub joined : List (Slot A) → ℕ → A → List (Slot A)
  joined ss i b = set ss i (waiting_slot b)

  unfoldable pub left : List (Slot A) → ℕ → List (Slot A)
  left ss i = set ss i free_slot

  -- ---- begin: who starts to play (D7)

  abbrev pub playing_slot : Slot A → Slot A
  playing_slot s = record { kind = playing; next = s.next; buffered = s.buffered }

  abbrev pub start_by : Bool → Slot A → Slot A
  start_by true s = playing_slot s
  start_by false s = s

  -- x is the floor, with the lead of the eldest request added while one asks (T5.5)
  unfoldable pub started_slot : ℕ → Slot A → Slot A
  started_slot x s = start_by (eqb s.kind filling && holds x s) s

  unfoldable pub started : ℕ → List (Slot A) → List (Slot A)
  started x ss = map (started_slot x) ss

  -- ---- who may be granted (D8); in which order says Order

  -- every playing slot holds at least x
  unfoldable pub players_hold : ℕ → List (Slot A) → Bool
  players_hold x ss = all_by (λ s. implies (eqb s.kind playing) (holds x s)) ss

  -- slot i asks, and the playing slots hold what the floor would be with its lead
  unfoldable pub grantable : List (Slot A) → ℕ → Bool
  grantable ss i = eqb (at ss i).kind waiting && players_hold (low_water (leads ss + p.lead (at ss i).next)) ss

  abbrev pub filling_slot : Slot A → Slot A
  filling_slot s = record { kind = filling; next = s.next; buffered = s.buffered }

  unfoldable pub granted : List (Slot A) → ℕ → List (Slot A)
  granted ss i = set ss i (filling_slot (at ss i))

  -- ---- what is fetched (D9), and the sweep bound (D11)

  unfoldable pub is_fetched : Slot A → Bool
  is_fetched s = reads s && leb (s.buffered + p.B) p.buffer

  -- the fetches in slot order, from slot i on
  unfoldable pub entries_from : ℕ → List (Slot A) → List Entry
  entries_from i [] = []
  entries_from i (s ∷ ss) =
      cond (is_fetched s) (entries_at i (p.number s.next) (p.position s.next ∷ p.others s.next)) [] ++ entries_from (suc i) ss

  unfoldable pub entries : List (Slot A) → List Entry
  entries ss = sorted (entries_from 0 ss)

  unfoldable pub time_of : Slot A → ℕ
  time_of s = cond (is_fetched s) (p.time s.next) 0

  unfoldable pub times : List (Slot A) → ℕ
  times ss = sum_by time_of ss

  unfoldable pub fetch_count : List (Slot A) → ℕ
  fetch_count ss = sum_by (λ s. bit (is_fetched s)) ss

  unfoldable pub bound : List (Slot A) → ℕ
  bound ss = times ss + p.overhead (fetch_count ss)

  -- ---- end

  -- d is the draw, and the flag says whether the slot was fetched for (D12); one that reaches the film's end becomes tail (D13)
  unfoldable pub swept_by : Bool → Slot A → ℕ → Slot A
  swept_by true s d = record { kind = cond (p.is_end (p.next s.next)) draining s.kind; next = p.next s.next; buffered = s.buffered - d + p.B }
  swept_by false s d = record { kind = s.kind; next = s.next; buffered = s.buffered - d }

  abbrev pub release_by : Bool → Slot A → Slot A
  release_by true s = free_slot
  release_by false s = s

  -- a tail is done when it holds nothing (D13)
  unfoldable pub released : Slot A → Slot A
  released s = release_by (eqb s.kind draining && eqb s.buffered 0) s

  unfoldable pub ended_slot : Slot A → ℕ → Slot A
  ended_slot s d = released (swept_by (is_fetched s) s d)

  unfoldable pub ended : List (Slot A) → List ℕ → List (Slot A)
  ended ss ds = map_from (λ i s. ended_slot s (get_or ds i 0)) 0 ss

  -- ---- what a slot may draw (D14)

  unfoldable pub most_drawn : List (Slot A) → ℕ
  most_drawn ss = p.c * bound ss / micros

  -- m is the most
  unfoldable pub draw_limit : ℕ → Slot A → ℕ
  draw_limit m s = cond (eqb s.kind playing || eqb s.kind draining) m 0
