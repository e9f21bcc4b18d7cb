-- A walk over the films of a shelf, as code makes it: film by film, with the positions that are still free.
-- Assumes nothing.
use Rattle.std.specs.Prelude.{ℕ, ◌+◌, ◌*◌, ◌-◌, ◌/◌, ◌≤◌, ◌<◌, ◌≡◌, refl, List}
use Rattle.std.proofs.Common.{sym, ap, ap₂, ◌∙◌, subst, arith, add-one}
use Rattle.laws.specs.Greatest.{greatest_of, greatest_of_least, earliest_le}
use Rattle.laws.specs.Starts.{start_of, start_none}
use Rattle.numbers.specs.Limits.{max_positions, max_blocks, max_time}
use Rattle.placement.specs.Showing.{Showing, one, loop, pairs, visits_of, laying, worst_of, worst_at, pair_time, pairs_of, walked, laying_lays, pairs_few}
use Rattle.placement.specs.Shelf.{free_for}
use Rattle.placement.proofs.Shelf.{free_next}
use Rattle.placement.specs.Zones.{time_at, zone_of, time_at_zone}
use Rattle.pacing.specs.Laid.{slowest, worst_within}
use Rattle.plan.specs.Disk.{OnDisk, length_at, Shelved, OnShelf, shelved_room, shelved_few, visits_on, blocks_on, walked_worst, walked_at}

-- film i of F, each block of so many visits, with the positions that are free for it
pub record AtFilm (x : Showing) (P : ℕ) (bs : List ℕ) (F count visits free i : ℕ) : Type 0 where
  pub all : count ≡ F
  pub each : visits ≡ visits_of x
  pub within : i ≤ F
  pub left : free ≡ free_for x P (length_at bs) i

-- the first
pub film_first : (x : Showing) (P : ℕ) (bs : List ℕ) (F visits : ℕ) → visits ≡ visits_of x → AtFilm x P bs F F visits P 0
film_first x P bs F v e = record {
  all = omega arith;
  each = e;
  within = omega arith;
  left = let z = ap (λ (s : ℕ). visits_of x * s) (start_none (length_at bs)) in omega arith;
}

-- past the last
pub film_last : {x : Showing} {P : ℕ} {bs : List ℕ} {F count visits free i : ℕ} → AtFilm x P bs F count visits free i → count ≤ i → i ≡ F
film_last a h = omega (arith, a.all, a.within)

module _ {x : Showing} {P : ℕ} {bs : List ℕ} {F count visits free i : ℕ} (a : AtFilm x P bs F count visits free i) (u : i < count) where
  pub film_below : i < F
  film_below = omega (arith, a.all)

  module _ (ok : Shelved x P bs F) where
    -- what it takes
    pub film_takes : visits * length_at bs i ≡ visits_of x * length_at bs i
    film_takes = ap (λ (v : ℕ). v * length_at bs i) a.each

    pub film_few : visits * length_at bs i ≤ 2 * max_blocks
    film_few = omega (arith, film_takes, shelved_few ok i film_below)

    pub film_fits : visits * length_at bs i ≤ free
    film_fits = omega (arith, film_takes, shelved_room ok i film_below, a.left)

    pub free_small : free ≤ max_positions
    free_small = omega (arith, a.left, ok.small)

    -- the next one
    pub film_next : AtFilm x P bs F count visits (free - visits * length_at bs i) (i + 1)
    film_next = record {
      all = a.all;
      each = a.each;
      within = omega (arith, film_below);
      left = omega (
        arith,
        film_takes,
        a.left,
        free_next x P (length_at bs) F ok.room i film_below,
        ap (λ (j : ℕ). visits_of x * start_of (length_at bs) j) (add-one i),
      );
    }

  module _ {ps ts : List ℕ} (ok : OnShelf ps ts x P bs F) where
    -- on the disk: all its visits, and its blocks alone
    pub film_visits : OnDisk ps ts free (visits * length_at bs i)
    film_visits = subst (λ (q : ℕ). OnDisk ps ts q (visits * length_at bs i)) (sym a.left)
        (subst (λ (v : ℕ). OnDisk ps ts (free_for x P (length_at bs) i) (v * length_at bs i)) (sym a.each) (visits_on ok i film_below))

    pub film_blocks : OnDisk ps ts free (length_at bs i)
    film_blocks = subst (λ (q : ℕ). OnDisk ps ts q (length_at bs i)) (sym a.left) (blocks_on ok i film_below)

-- ---- the worst pair of a film's visits

-- no visit of a film takes more than the greatest time
pub visit_quick : (ps ts : List ℕ) (P N : ℕ) → OnDisk ps ts P N → (x : Showing) → visits_of x ≡ 1 → (b : ℕ) → b < N → time_at ps ts (laying x P N b) ≤ max_time
visit_quick ps ts P N f x e b u =
    let n : visits_of x * N ≡ N = rw e (omega arith) in
    let q = (laying_lays x P N (omega (arith, f.room))).into b (omega arith) in
    let (i, r, lo, hi) = zone_of ps (laying x P N b) (omega (arith, q, f.whole)) in
    omega (arith, time_at_zone ps ts i (laying x P N b) lo hi, f.disk.quick i)

-- so no pair takes more than twice it
pub pair_quick : (ps ts : List ℕ) (P N : ℕ) → OnDisk ps ts P N → (x : Showing) → worst_of (walked x) (time_at ps ts) (laying (walked x) P N) N ≤ 2 * max_time
unfolding slowest
pair_quick ps ts P N f x = go x
  where
    each : (y : Showing) → visits_of y ≡ 1 → greatest_of (λ b. time_at ps ts (laying y P N b)) N ≤ max_time
    each y e = greatest_of_least (λ b. time_at ps ts (laying y P N b)) N max_time (visit_quick ps ts P N f y e)

    go : (x : Showing) → worst_of (walked x) (time_at ps ts) (laying (walked x) P N) N ≤ 2 * max_time
    go one = omega (arith, worst_within (time_at ps ts) (laying one P N) N one, each one refl)
    go loop = omega (arith, worst_within (time_at ps ts) (laying loop P N) N loop, each loop refl)
    go pairs = omega (arith, worst_within (time_at ps ts) (laying one P N) N one, each one refl)

-- and its first block is one of them
pub pair_below : (x : Showing) (τ l : ℕ → ℕ) (N : ℕ) → worst_at x τ l N ≤ N
unfolding worst_at
pair_below x τ l N = omega (arith, earliest_le (pair_time x τ l N) (pairs_of x N), pairs_few x N)

-- film i's own, as the code finds it
module _ {x : Showing} {P : ℕ} {bs : List ℕ} {F count visits free i : ℕ} (a : AtFilm x P bs F count visits free i) (ps ts : List ℕ) where
  abbrev all : ℕ
  all = visits * length_at bs i

  pub own_worst : (w : ℕ) → w ≡ worst_of (walked x) (time_at ps ts) (laying (walked x) free all) all → visits * w ≡ walked_worst ps ts x P bs i
  own_worst w e =
      ap (λ (t : ℕ). visits * t) e
      ∙ ap₂ (λ (q v : ℕ). v * worst_of (walked x) (time_at ps ts) (laying (walked x) q (v * length_at bs i)) (v * length_at bs i)) a.left a.each

  pub own_at : (start b : ℕ) → start ≡ start_of (length_at bs) i → b ≡ worst_at (walked x) (time_at ps ts) (laying (walked x) free all) all
      → start + b / visits ≡ walked_at ps ts x P bs i
  own_at start b e d =
      ap₂ (λ (s c : ℕ). s + c / visits) e d
      ∙ ap₂ (λ (q v : ℕ). start_of (length_at bs) i + worst_at (walked x) (time_at ps ts) (laying (walked x) q (v * length_at bs i)) (v * length_at bs i) / v)
      a.left a.each
