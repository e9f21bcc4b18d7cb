-- Document 02, ticket 14: the films of a disk as they are laid, and the shelf that they make: paced by the greatest of their worst times, and no
-- laying of a film feeds more streams.
-- Assumes nothing.
use Prim.Native.Nat.{ℕ, suc, ◌+◌, ◌*◌, ◌-◌, ◌≤◌, ◌<◌}
use Rattle.std.specs.Prelude.{◌≡◌, ◌≢◌, true}
use Rattle.std.proofs.Math.Path.{ap}
use Rattle.std.proofs.Common.{◌∙◌, ltb-true}
use Rattle.std.proofs.Math.Logic.{by_cases}
use native.Mathlib.Omega.{arith}
use Rattle.std.proofs.Math.Nat.{le_antisymm}
use Rattle.std.proofs.Math.Decide.{ℕ_discrete}
use Rattle.laws.specs.Greatest.{greatest_of, greatest_of_above, greatest_of_least, greatest_of_same, greatest_of_reached}
use Rattle.numbers.specs.Limits.{name_step}
use Rattle.numbers.specs.Units.{parts}
use Rattle.placement.specs.Placement.{Laying, Falling}
use Rattle.placement.specs.Showing.{Showing, one, loop, pairs, visits_of, block_time, worst_of, after, greatest_twice}
use Rattle.placement.proofs.Showing.{slowest_first}
use Rattle.laws.specs.Starts.{start_of, start_next, start_rises}
use Rattle.placement.specs.Shelf.{free_for, laying_in, falling_less}
use Rattle.placement.proofs.Shelf.{film_room, free_next, film_best}
use Rattle.pacing.specs.Film.{Film, Paced, lead}
use Rattle.pacing.specs.Lead.{lead_closed}
use Rattle.pacing.specs.Shown.{round_below}
use Rattle.pacing.specs.Streams.{load, streams, streams_best}
use Rattle.pacing.specs.Laid.{laid_film, slowest, slowest_pairs, laid_paced, worst_within, time_below}
use Rattle.pacing.specs.Shelf.{shelf, shelf_paced, paced_more}

-- F films of N i blocks on P positions, τ being the time of a position
module _ (x : Showing) (τ : ℕ → ℕ) (P : ℕ) (N : ℕ → ℕ) where
  -- film i as it is laid, its own worst time and its slowest block
  abbrev pub laid_in : ℕ → Film ℕ
  laid_in i = laid_film x τ (laying_in x P N i) (N i)

  abbrev pub worst_in : ℕ → ℕ
  worst_in i = worst_of x τ (laying_in x P N i) (N i)

  abbrev pub slowest_in : ℕ → ℕ
  slowest_in i = slowest x τ (laying_in x P N i) (N i)

  module _ (F : ℕ) where
    -- worst2 is the greatest of the films' own
    unfoldable pub worst_shelf : ℕ
    worst_shelf = greatest_of worst_in F

    -- the greatest time(b) of them all
    unfoldable pub slowest_shelf : ℕ
    slowest_shelf = greatest_of slowest_in F

    -- margin
    unfoldable pub margin_shelf : ℕ
    margin_shelf = 2 * slowest_shelf - worst_shelf

    pub worst_above : (i : ℕ) → i < F → worst_in i ≤ worst_shelf
    unfolding worst_shelf
    worst_above i u = greatest_of_above worst_in F i u

    pub slowest_above : (i : ℕ) → i < F → slowest_in i ≤ slowest_shelf
    unfolding slowest_shelf
    slowest_above i u = greatest_of_above slowest_in F i u

    -- twice the greatest time is at least the worst time: the margin's subtraction is exact
    pub shelf_within : worst_shelf ≤ 2 * slowest_shelf
    unfolding worst_shelf
    shelf_within = greatest_of_least worst_in F _ (λ i u. omega (arith, worst_within τ (laying_in x P N i) (N i) x, slowest_above i u))

    -- every block takes less than the worst time
    pub slowest_less : 0 < F → ((i : ℕ) → i < F → 1 < N i) → ((i b : ℕ) → i < F → b < N i → 0 < block_time x τ (laying_in x P N i) b)
        → slowest_shelf < worst_shelf
    unfolding slowest_shelf slowest
    slowest_less some two positive =
        let (i, u, e) = greatest_of_reached slowest_in F some in
        let (b, v, d) = greatest_of_reached (block_time x τ (laying_in x P N i)) (N i) (omega (arith, two i u)) in
        omega (arith, time_below τ (laying_in x P N i) (N i) x (two i u) (λ b v. positive i b u v) b v, worst_above i u)

    pub margin_less : slowest_shelf < worst_shelf → margin_shelf + 1 ≤ worst_shelf
    unfolding margin_shelf
    margin_less h = omega arith

  -- after a block of a film comes a number that can be named
  next_low : (y : Showing) (M b : ℕ) → M < name_step → b < M → after y M b < name_step
  next_low one M b h u = omega arith
  next_low loop M b h u = omega (arith, round_below M b u)
  next_low pairs M b h u = omega arith

  -- F films, none of which is too long to be named; a join to another is refused by `none`
  module _ (F : ℕ) (low : (i : ℕ) → i < F → N i < name_step) where
    pub next_named : (i b : ℕ) → i < F → (laid_in i).is_block b ≡ true → (laid_in i).next b < name_step
    next_named i b u e = next_low x (N i) b (low i u) (ltb-true b (N i) e)

  module _ (F none : ℕ) (low : (i : ℕ) → i < F → N i < name_step) where
    abbrev pub shelf_film : Film ℕ
    shelf_film = shelf F laid_in none

    -- THE SHELF IS PACED by the greatest of the films' worst times
    pub shelf_is_paced : Paced shelf_film (worst_shelf F) (slowest_shelf F)
    shelf_is_paced =
        shelf_paced F laid_in none (next_named F low) (worst_shelf F) (slowest_shelf F)
        (λ i u. paced_more (laid_in i) (worst_in i) (worst_shelf F) (slowest_in i) (slowest_shelf F) (worst_above F i u) (slowest_above F i u)
        (laid_paced τ (laying_in x P N i) (N i) x))

    -- a lead as code computes it, by the common worst time
    pub shelf_lead : (a : ℕ) → shelf_film.is_block a ≡ true → lead shelf_film (worst_shelf F) a ≡ 2 * shelf_film.time a - worst_shelf F
    shelf_lead a e = lead_closed shelf_film (worst_shelf F) (slowest_shelf F) shelf_is_paced a e

  -- WITH THE OTHER FILMS' WORST TIMES AS THEY ARE NO LAYING OF A FILM LETS MORE STREAMS FIT
  module _ (F : ℕ) (room : visits_of x * start_of N F ≤ P) (falls : Falling P τ) where
    pub no_film_feeds_more : (i : ℕ) → i < F → 1 < N i → (l : ℕ → ℕ) → Laying (free_for x P N i) (visits_of x * N i) l
        → (W : ℕ) → worst_of x τ l (N i) ≤ W → ((j : ℕ) → j < F → j ≢ i → worst_in j ≤ W)
        → (cap c : ℕ) (over : ℕ → ℕ) (B n : ℕ) → streams cap c (worst_shelf F) over B < n → n ≤ cap → parts * B < load c W over n
    unfolding worst_shelf
    no_film_feeds_more i u two l lay W h others cap c over B n m v =
        streams_best cap c (worst_shelf F) over B W n
        (greatest_of_least worst_in F W (λ j k. by_cases (ℕ_discrete j i)
        (λ e. omega (arith, film_best x P N F room i u two τ falls l lay, ap worst_in e)) (others j k))) m v

-- half blocks have no margin
pub no_margin_shelf : (τ : ℕ → ℕ) (P : ℕ) (N : ℕ → ℕ) (F : ℕ) → margin_shelf pairs τ P N F ≡ 0
unfolding margin_shelf worst_shelf slowest_shelf
no_margin_shelf τ P N F =
    omega (
      arith,
      greatest_twice (slowest_in pairs τ P N) F,
      greatest_of_same (worst_in pairs τ P N) (λ i. 2 * slowest_in pairs τ P N i) F
          (λ i u. omega (arith, slowest_pairs τ (laying_in pairs P N i) (N i))),
    )

-- of one visit a block a film's slowest is its first, which takes the lowest of its positions
module _ (τ : ℕ → ℕ) (P : ℕ) (N : ℕ → ℕ) (F : ℕ) (falls : Falling P τ) where
  film_slowest : (x : Showing) → visits_of x ≡ 1 → visits_of x * start_of N F ≤ P → (i : ℕ) → i < F → 0 < N i
      → slowest_in x τ P N i ≡ τ (free_for x P N (suc i))
  unfolding slowest
  film_slowest one e room i u some =
      slowest_first (free_for one P N i) (N i) τ (falling_less P (free_for one P N i) τ (omega arith) falls) one e
      (omega (arith, film_room one P N F room i u)) some
      ∙ ap τ (omega (arith, free_next one P N F room i u))
  film_slowest loop e room i u some =
      slowest_first (free_for loop P N i) (N i) τ (falling_less P (free_for loop P N i) τ (omega arith) falls) loop e
      (omega (arith, film_room loop P N F room i u)) some
      ∙ ap τ (omega (arith, free_next loop P N F room i u))
  film_slowest pairs e room i u some = absurd (omega arith)

  module _ (x : Showing) (single : visits_of x ≡ 1) (room : visits_of x * start_of N F ≤ P) (each : (i : ℕ) → i < F → 0 < N i) where
    visited : (n : ℕ) → visits_of x * n ≡ n
    visited n = rw single (omega arith)

    -- the films after it lie lower
    later : (i : ℕ) → i < F → τ (free_for x P N (suc i)) ≤ τ (free_for x P N F)
    unfolding Falling
    later i u =
        let s = start_rises N (suc i) F u in
        falls (free_for x P N F) (free_for x P N (suc i)) (omega (arith, visited (start_of N F), visited (start_of N (suc i))))
        (omega (arith, visited (start_of N F), visited (start_of N (suc i)), start_next N i, each i u))

    -- so the slowest of all is the last film's first, on the lowest position in use
    pub slowest_last : 0 < F → slowest_shelf x τ P N F ≡ τ (free_for x P N F)
    unfolding slowest_shelf
    slowest_last some =
        let u : F - 1 < F = omega arith in
        let s : suc (F - 1) ≡ F = omega arith in
        le_antisymm
        (greatest_of_least (slowest_in x τ P N) F _ (λ i u. omega (arith, film_slowest x single room i u (each i u), later i u)))
        (omega (
          arith,
          greatest_of_above (slowest_in x τ P N) F (F - 1) u,
          film_slowest x single room (F - 1) u (each (F - 1) u),
          ap (λ (j : ℕ). τ (free_for x P N j)) s,
        ))
