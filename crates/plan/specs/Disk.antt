-- A disk and the films on it, as the code's walks over them need them.
use Rattle.std.specs.Prelude.{ℕ, suc, ◌+◌, ◌-◌, ◌*◌, ◌/◌, ◌≤◌, ◌<◌, ◌≡◌, List, length, get_or}
use Rattle.std.proofs.Common.{mul-pos, mul-le-mul, mul-le-mul_right, arith}
use Rattle.laws.specs.Starts.{start_of, start_next, start_rises}
use Rattle.numbers.specs.Limits.{max_zones, max_positions, max_time, max_films, max_blocks}
use Rattle.placement.specs.Showing.{Showing, visits_of, visits_few, laying, walked, worst_of, worst_at}
use Rattle.placement.specs.Shelf.{free_for, laying_in}
use Rattle.placement.proofs.Shelf.{film_room}
use Rattle.placement.specs.Zones.{total, time_at}
use Rattle.plan.specs.Plan.{rows_of}

-- the zones of a disk, whose positions are few enough in all
pub record Zoned (ps : List ℕ) : Type 0 where
  pub wide : length ps ≡ max_zones
  pub small : total ps ≤ max_positions

-- the same, with no time above the greatest
pub record Disk (ps ts : List ℕ) : Type 0 where
  pub zoned : Zoned ps
  pub quick : (i : ℕ) → get_or ts i 0 ≤ max_time

-- a film of N blocks on the first P positions of the disk
pub record OnDisk (ps ts : List ℕ) (P N : ℕ) : Type 0 where
  pub disk : Disk ps ts
  pub whole : P ≤ total ps
  pub some : 0 < N
  pub room : N ≤ P

-- the lead of block b as the code computes it, l being the laying and w worst2
abbrev pub lead_at : List ℕ → List ℕ → (ℕ → ℕ) → ℕ → ℕ → ℕ
lead_at ps ts l w b = 2 * time_at ps ts (l b) - w

-- ---- a shelf of films

-- N of film i, bs being the blocks of each
abbrev pub length_at : List ℕ → ℕ → ℕ
length_at bs i = get_or bs i 0

-- F films that have room on P positions, in a showing
pub record Shelved (x : Showing) (P : ℕ) (bs : List ℕ) (F : ℕ) : Type 0 where
  pub wide : length bs ≡ max_films
  pub few : F ≤ max_films
  pub each : (i : ℕ) → i < F → 0 < length_at bs i
  pub all : start_of (length_at bs) F ≤ max_blocks
  pub room : visits_of x * start_of (length_at bs) F ≤ P
  pub small : P ≤ max_positions

-- the first P positions of a disk
pub record OnShelf (ps ts : List ℕ) (x : Showing) (P : ℕ) (bs : List ℕ) (F : ℕ) : Type 0 where
  pub disk : Disk ps ts
  pub whole : P ≤ total ps
  pub films : Shelved x P bs F

module _ {x : Showing} {P : ℕ} {bs : List ℕ} {F : ℕ} (s : Shelved x P bs F) (i : ℕ) (u : i < F) where
  -- the entries of film i: some, with room, few
  pub shelved_some : 0 < visits_of x * length_at bs i
  shelved_some = mul-pos (visits_few x).0 (s.each i u)

  pub shelved_room : visits_of x * length_at bs i ≤ free_for x P (length_at bs) i
  shelved_room = film_room x P (length_at bs) F s.room i u

  pub shelved_length : length_at bs i ≤ max_blocks
  shelved_length = omega (arith, s.all, start_next (length_at bs) i, start_rises (length_at bs) (suc i) F u)

  pub shelved_few : visits_of x * length_at bs i ≤ 2 * max_blocks
  shelved_few = mul-le-mul (visits_few x).1 shelved_length

module _ {ps ts : List ℕ} {x : Showing} {P : ℕ} {bs : List ℕ} {F : ℕ} (s : OnShelf ps ts x P bs F) (i : ℕ) (u : i < F) where
  -- film i on what is free for it, as all its visits, and as its blocks alone
  pub visits_on : OnDisk ps ts (free_for x P (length_at bs) i) (visits_of x * length_at bs i)
  visits_on = record { disk = s.disk; whole = omega (arith, s.whole); some = shelved_some s.films i u; room = shelved_room s.films i u }

  pub blocks_on : OnDisk ps ts (free_for x P (length_at bs) i) (length_at bs i)
  blocks_on = record {
    disk = s.disk;
    whole = omega (arith, s.whole);
    some = s.films.each i u;
    room = omega (arith, shelved_room s.films i u, mul-le-mul_right (length_at bs i) (visits_few x).0);
  }

-- the lists as the code writes them, film by film: the positions, and the leads by a walk of one visit a block, w being worst2
abbrev pub shelf_positions : Showing → ℕ → List ℕ → ℕ → List ℕ
shelf_positions x P bs = rows_of (laying_in x P (length_at bs)) (λ i. visits_of x * length_at bs i)

abbrev pub walked_leads : List ℕ → List ℕ → Showing → ℕ → List ℕ → ℕ → ℕ → ℕ → ℕ
walked_leads ps ts x P bs w i = lead_at ps ts (laying (walked x) (free_for x P (length_at bs) i) (length_at bs i)) w

abbrev pub shelf_leads : List ℕ → List ℕ → Showing → ℕ → List ℕ → ℕ → ℕ → List ℕ
shelf_leads ps ts x P bs w = rows_of (walked_leads ps ts x P bs w) (length_at bs)

-- film i's own worst pair by a walk over all its visits: the time of both blocks, and the first of them, through the films
abbrev pub walked_worst : List ℕ → List ℕ → Showing → ℕ → List ℕ → ℕ → ℕ
walked_worst ps ts x P bs i =
    let n = visits_of x * length_at bs i in
    visits_of x * worst_of (walked x) (time_at ps ts) (laying (walked x) (free_for x P (length_at bs) i) n) n

abbrev pub walked_at : List ℕ → List ℕ → Showing → ℕ → List ℕ → ℕ → ℕ
walked_at ps ts x P bs i =
    let n = visits_of x * length_at bs i in
    start_of (length_at bs) i + worst_at (walked x) (time_at ps ts) (laying (walked x) (free_for x P (length_at bs) i) n) n / visits_of x
