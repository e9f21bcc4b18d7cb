-- The showings of a film: once through as document 01 has it, document 02's loop, or once through with each block as two halves. What differs
-- is the laying, the visits of a block and the pairs of blocks that the worst time is taken over; what holds of all stands here once.
-- Assumes nothing.
use Rattle.std.specs.Prelude.{ℕ, zero, suc, ◌+◌, ◌*◌, ◌-◌, ◌≤◌, ◌<◌, ◌≡◌, refl, List, [], ◌∷◌}
use Rattle.std.proofs.Common.{ap, ◌∙◌, subst}
use native.Mathlib.Omega.{arith}
use Rattle.laws.specs.Greatest.{greatest_of, earliest_of}
use Rattle.placement.specs.Placement.{zigzag, zigzag_even, Laying, worst_time}
use Rattle.placement.specs.Best.{zigzag_laying, zigzag_high}
use Rattle.placement.specs.Circle.{round, ring, worst_round}
use Rattle.placement.specs.CircleBest.{ring_laying, ring_high, ring_first}
use Rattle.placement.specs.Pairs.{both_halves, worst_match}

-- one showing, a film that goes round and round (T7.1), or one showing of half blocks (ticket 11)
pub data Showing : Type 0 where
  one loop pairs : Showing

-- how many positions a block takes, and so how often it is visited
abbrev pub visits_of : Showing → ℕ
visits_of one = 1
visits_of loop = 1
visits_of pairs = 2

pub visits_few : (x : Showing) → (1 ≤ visits_of x) × (visits_of x ≤ 2)
visits_few one = omega arith
visits_few loop = omega arith
visits_few pairs = omega arith

-- entry v of the positions of N blocks on P positions, of which they take the highest: `laying x P N v` (P1, T7.3). The visits of block b
-- are the entries from `visits_of x * b` on
abbrev pub laying : Showing → ℕ → ℕ → ℕ → ℕ
laying one = zigzag
laying loop = ring
laying pairs = λ P N. zigzag P (2 * N)

-- the position of a block that is laid by l, that of its first half where it has two, and the others
abbrev pub first_place : Showing → (ℕ → ℕ) → ℕ → ℕ
first_place x l b = l (visits_of x * b)

abbrev pub other_places : Showing → (ℕ → ℕ) → ℕ → List ℕ
other_places one l b = []
other_places loop l b = []
other_places pairs l b = l (suc (2 * b)) ∷ []

-- the time of a block (P2), that of both halves where it has two
abbrev pub block_time : Showing → (ℕ → ℕ) → (ℕ → ℕ) → ℕ → ℕ
block_time one τ l b = τ (l b)
block_time loop τ l b = τ (l b)
block_time pairs τ l b = both_halves τ l b

-- it takes time where each of its visits does, and at most what bounds each, for each visit
pub block_positive : (x : Showing) (τ l : ℕ → ℕ) (N b : ℕ) → b < N → ((v : ℕ) → v < visits_of x * N → 0 < τ (l v)) → 0 < block_time x τ l b
block_positive one τ l N b u each = each b (omega arith)
block_positive loop τ l N b u each = each b (omega arith)
block_positive pairs τ l N b u each = omega (arith, each (2 * b) (omega arith))

pub block_within : (x : Showing) (τ l : ℕ → ℕ) (N b m : ℕ) → b < N → ((v : ℕ) → v < visits_of x * N → τ (l v) ≤ m) → block_time x τ l b ≤ visits_of x * m
block_within one τ l N b m u each = omega (arith, each b (omega arith))
block_within loop τ l N b m u each = omega (arith, each b (omega arith))
block_within pairs τ l N b m u each = omega (arith, each (2 * b) (omega arith), each (suc (2 * b)) (omega arith))

-- the worst time of a laying (P10, T7.2): of two successive blocks the most; in a loop the first follows the last. Of half blocks twice the
-- greatest pair time
abbrev pub worst_of : Showing → (ℕ → ℕ) → (ℕ → ℕ) → ℕ → ℕ
worst_of one = worst_time
worst_of loop = worst_round
worst_of pairs = λ τ l N. 2 * worst_match τ l N

-- ---- the worst pair (document 02, ticket 2)

-- the block after b of N (T7.1): in a loop the last is followed by the first
abbrev pub after : Showing → ℕ → ℕ → ℕ
after one N = suc
after loop N = round N
after pairs N = suc

-- the pairs that the worst time is taken over, each by its first block: a loop has one more, that of its last block and its first; of half blocks
-- it is a block and itself
abbrev pub pairs_of : Showing → ℕ → ℕ
pairs_of one N = N - 1
pairs_of loop N = N
pairs_of pairs N = N

pub pairs_few : (x : Showing) (N : ℕ) → pairs_of x N ≤ N
pairs_few one N = omega arith
pairs_few loop N = omega arith
pairs_few pairs N = omega arith

pub some_pairs : (x : Showing) (N : ℕ) → 1 < N → (0 < pairs_of x N) × (pairs_of x N ≤ N)
some_pairs one N h = omega arith
some_pairs loop N h = omega arith
some_pairs pairs N h = omega arith

-- what the pair of block b takes
abbrev pub pair_time : Showing → (ℕ → ℕ) → (ℕ → ℕ) → ℕ → ℕ → ℕ
pair_time one τ l N b = τ (l b) + τ (l (suc b))
pair_time loop τ l N b = τ (l b) + τ (l (round N b))
pair_time pairs τ l N b = 2 * both_halves τ l b

-- the first block of the worst pair, the earliest where several are equal (T2.1)
unfoldable pub worst_at : Showing → (ℕ → ℕ) → (ℕ → ℕ) → ℕ → ℕ
worst_at x τ l N = earliest_of (pair_time x τ l N) (pairs_of x N)

-- the greatest of twice a function
pub greatest_twice : (g : ℕ → ℕ) (N : ℕ) → 2 * greatest_of g N ≡ greatest_of (λ b. 2 * g b) N
unfolding greatest_of
greatest_twice g zero = refl
greatest_twice g (suc n) = omega (arith, greatest_twice g n)

-- the worst time is the most that a pair takes
pub worst_pair : (x : Showing) (τ l : ℕ → ℕ) (N : ℕ) → worst_of x τ l N ≡ greatest_of (pair_time x τ l N) (pairs_of x N)
unfolding worst_time worst_round worst_match
worst_pair one τ l N = refl
worst_pair loop τ l N = refl
worst_pair pairs τ l N = greatest_twice (both_halves τ l) N

-- ---- the layings

-- every entry lies below P, and no two on one position
pub laying_lays : (x : Showing) (P N : ℕ) → visits_of x * N ≤ P → Laying P (visits_of x * N) (laying x P N)
laying_lays one P N np = let e : N ≡ 1 * N = omega arith in subst (λ (n : ℕ). Laying P n (zigzag P N)) e (zigzag_laying P N (omega arith))
laying_lays loop P N np = let e : N ≡ 1 * N = omega arith in subst (λ (n : ℕ). Laying P n (ring P N)) e (ring_laying P N (omega arith))
laying_lays pairs P N np = zigzag_laying P (2 * N) np

-- the film takes the highest positions
pub laying_high : (x : Showing) (P N v : ℕ) → visits_of x * N ≤ P → v < visits_of x * N → P - visits_of x * N ≤ laying x P N v
laying_high one P N v np u = omega (arith, zigzag_high P N v (omega arith) (omega arith))
laying_high loop P N v np u = omega (arith, ring_high P N v)
laying_high pairs P N v np u = zigzag_high P (2 * N) v np u

-- and its first entry the lowest of them
pub laying_first : (x : Showing) (P N : ℕ) → laying x P N 0 ≡ P - visits_of x * N
laying_first one P N = ap (zigzag P N) (omega arith) ∙ zigzag_even P N 0 ∙ omega arith
laying_first loop P N = ring_first P N ∙ omega arith
laying_first pairs P N = ap (zigzag P (2 * N)) (omega arith) ∙ zigzag_even P (2 * N) 0 ∙ omega arith

-- ---- as a walk over all visits finds it

-- the showing whose blocks are a film's visits: of half blocks, one showing of twice as many
abbrev pub walked : Showing → Showing
walked one = one
walked loop = loop
walked pairs = one

-- it has one visit a block
pub walked_single : (x : Showing) → visits_of (walked x) ≡ 1
walked_single one = refl
walked_single loop = refl
walked_single pairs = refl

pub walked_laying : (x : Showing) (P N : ℕ) → laying (walked x) P (visits_of x * N) ≡ laying x P N
walked_laying one P N = let e : 1 * N ≡ N = omega arith in rw e
walked_laying loop P N = let e : 1 * N ≡ N = omega arith in rw e
walked_laying pairs P N = refl
