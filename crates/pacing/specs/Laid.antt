-- A film as it is laid, for every showing: it is paced by its own worst time, its margin is below that, and no laying feeds more streams.
-- Assumes nothing.
use Rattle.std.specs.Prelude.{ℕ, suc, ◌+◌, ◌*◌, ◌-◌, ◌≤◌, ◌<◌, ◌≡◌}
use Rattle.std.proofs.Math.Path.{refl}
use Rattle.std.proofs.Common.{sym, ap, ◌∙◌, arith}
use Rattle.std.proofs.Math.Logic.{by_cases}
use Rattle.std.proofs.Math.Decide.{dec_lt}
use Rattle.laws.specs.Greatest.{greatest_of, greatest_of_above, greatest_of_least, greatest_of_reached}
use Rattle.numbers.specs.Units.{parts}
use Rattle.placement.specs.Placement.{Laying, Falling, zigzag, worst_time}
use Rattle.placement.specs.Circle.{round, worst_round}
use Rattle.placement.specs.Pairs.{both_halves, worst_match}
use Rattle.placement.specs.Showing.{Showing, one, loop, pairs, visits_of, laying, first_place, other_places, block_time, worst_of}
use Rattle.placement.specs.Showing.{laying_first, after}
use Rattle.placement.proofs.Showing.{slowest_first, laying_best}
use Rattle.pacing.specs.Film.{Film, Paced, lead, shown}
use Rattle.pacing.specs.Shown.{round_below, shown_paced, shown_lead}
use Rattle.pacing.specs.Streams.{load, streams, streams_best}

-- the film of N blocks laid by l, τ being the time of a position: where block b lies, and its time(b)
abbrev pub laid_film : Showing → (ℕ → ℕ) → (ℕ → ℕ) → ℕ → Film ℕ
laid_film x τ l N = shown x N (block_time x τ l) (first_place x l) (other_places x l)

module _ (x : Showing) (τ l : ℕ → ℕ) (N : ℕ) where
  -- the greatest time(b)
  unfoldable pub slowest : ℕ
  slowest = greatest_of (block_time x τ l) N

  -- a block takes at most the greatest time
  pub time_within : (b : ℕ) → b < N → block_time x τ l b ≤ slowest
  unfolding slowest
  time_within b u = greatest_of_above (block_time x τ l) N b u

module _ (τ l : ℕ → ℕ) (N : ℕ) where
  -- of half blocks it is p, half of the worst time
  pub slowest_pairs : slowest pairs τ l N ≡ worst_match τ l N
  unfolding slowest worst_match
  slowest_pairs = refl

  -- two successive blocks take at most the worst time
  pub pair_within : (x : Showing) (b : ℕ) → b < N → after x N b < N → block_time x τ l b + block_time x τ l (after x N b) ≤ worst_of x τ l N
  unfolding worst_time worst_round
  pair_within one b u v = greatest_of_above (λ b. τ (l b) + τ (l (suc b))) (N - 1) b (omega arith)
  pair_within loop b u v = greatest_of_above (λ b. τ (l b) + τ (l (round N b))) N b u
  pair_within pairs b u v = omega (arith, slowest_pairs, time_within pairs τ l N b u, time_within pairs τ l N (suc b) v)

  -- so the film is paced by them
  pub laid_paced : (x : Showing) → Paced (laid_film x τ l N) (worst_of x τ l N) (slowest x τ l N)
  laid_paced x =
      shown_paced N (block_time x τ l) (first_place x l) (other_places x l) x (worst_of x τ l N) (slowest x τ l N) (pair_within x) (time_within x τ l N)

  -- twice the greatest time is at least the worst time: the margin's subtraction is exact
  pub worst_within : (x : Showing) → worst_of x τ l N ≤ 2 * slowest x τ l N
  unfolding worst_time worst_round
  worst_within one = greatest_of_least (λ b. τ (l b) + τ (l (suc b))) (N - 1) (2 * slowest one τ l N)
      (λ b u. omega (arith, time_within one τ l N b (omega arith), time_within one τ l N (suc b) (omega arith)))
  worst_within loop = greatest_of_least (λ b. τ (l b) + τ (l (round N b))) N (2 * slowest loop τ l N)
      (λ b u. omega (arith, time_within loop τ l N b u, time_within loop τ l N (round N b) (round_below N b u)))
  worst_within pairs = omega (arith, slowest_pairs)

  -- every block has a neighbour, and that takes time too; of half blocks the worst time is that of two blocks
  pub time_below : (x : Showing) → 1 < N → ((b : ℕ) → b < N → 0 < block_time x τ l b) → (b : ℕ) → b < N → block_time x τ l b < worst_of x τ l N
  time_below one two positive b u = by_cases (dec_lt (suc b) N)
      (λ h. omega (arith, pair_within one b u h, positive (suc b) h))
      (λ h. let e : suc (b - 1) ≡ b = omega arith in
      omega (arith, rw e at (pair_within one (b - 1) (omega arith) (omega arith)), positive (b - 1) (omega arith)))
  time_below loop two positive b u = let v = round_below N b u in omega (arith, pair_within loop b u v, positive (round N b) v)
  time_below pairs two positive b u = omega (arith, slowest_pairs, time_within pairs τ l N b u, positive b u)

module _ (x : Showing) (τ l : ℕ → ℕ) (N : ℕ) where
  -- margin (P5)
  unfoldable pub margin : ℕ
  margin = 2 * slowest x τ l N - worst_of x τ l N

  -- a lead as code computes it
  pub laid_lead : (b : ℕ) → b < N → lead (laid_film x τ l N) (worst_of x τ l N) b ≡ 2 * block_time x τ l b - worst_of x τ l N
  laid_lead b u =
      shown_lead N (block_time x τ l) (first_place x l) (other_places x l) x (worst_of x τ l N) (slowest x τ l N) (laid_paced τ l N x) b u

  pub margin_small : 1 < N → ((b : ℕ) → b < N → 0 < block_time x τ l b) → margin + 1 ≤ worst_of x τ l N
  unfolding margin slowest
  margin_small two positive =
      let (b, u, e) = greatest_of_reached (block_time x τ l) N (omega arith) in
      omega (arith, time_below τ l N x two positive b u)

-- half blocks have no margin, and no lead
pub no_margin : (τ l : ℕ → ℕ) (N : ℕ) → margin pairs τ l N ≡ 0
unfolding margin
no_margin τ l N = omega (arith, slowest_pairs τ l N)

pub no_lead : (τ l : ℕ → ℕ) (N b : ℕ) → b < N → lead (laid_film pairs τ l N) (worst_of pairs τ l N) b ≡ 0
no_lead τ l N b u = omega (arith, laid_lead pairs τ l N b u, slowest_pairs τ l N, time_within pairs τ l N b u)

-- the margin of a showing's laying, as code computes it: of one visit a block, block 0 is the slowest
pub margin_quick : (x : Showing) (P N : ℕ) → visits_of x * N ≤ P → 0 < N → (τ : ℕ → ℕ) → Falling P τ
    → margin x τ (laying x P N) N ≡ 2 * τ (P - visits_of x * N) - worst_of x τ (laying x P N) N
unfolding margin slowest
margin_quick one P N np some τ falls =
    let e : 1 * N ≡ N = omega arith in
    rw e (ap (λ (s : ℕ). 2 * s - worst_of one τ (laying one P N) N) (slowest_first P N τ falls one refl (omega arith) some))
margin_quick loop P N np some τ falls =
    let e : 1 * N ≡ N = omega arith in
    rw e (ap (λ (s : ℕ). 2 * s - worst_of loop τ (laying loop P N) N) (slowest_first P N τ falls loop refl (omega arith) some))
margin_quick pairs P N np some τ falls =
    let l = laying pairs P N in
    omega (arith, slowest_pairs τ l N, time_within pairs τ l N 0 some, ap τ (laying_first pairs P N))

-- with any laying's worst time in place of worst2 no number above streams meets the formula (P10, T7.4)
pub no_laying_feeds_more : (x : Showing) (P N : ℕ) → visits_of x * N ≤ P → 1 < N → (τ : ℕ → ℕ) → Falling P τ → (l : ℕ → ℕ) → Laying P (visits_of x * N) l
    → (cap c : ℕ) (over : ℕ → ℕ) (B n : ℕ) → streams cap c (worst_of x τ (laying x P N) N) over B < n → n ≤ cap → parts * B < load c (worst_of x τ l N) over n
no_laying_feeds_more x P N np two τ falls l lay cap c over B n m u =
    streams_best cap c (worst_of x τ (laying x P N) N) over B (worst_of x τ l N) n (laying_best x P N np two τ falls l lay) m u
