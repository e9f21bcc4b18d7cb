-- The worst times of all layings: that the smallest is the planner's, and that they are those of all orders of the positions' times.
-- Assumes nothing.
use Rattle.std.specs.Prelude.{ℕ, ◌+◌, ◌*◌, ◌-◌, ◌≤◌, ◌<◌, ◌≡◌, refl, List, [], ◌∷◌, map, length}
use Rattle.std.proofs.Common.{sym, ap, ◌∙◌, arith, le_antisymm}
use Rattle.laws.specs.Greatest.{greatest_of, greatest_of_same}
use Rattle.laws.specs.Starts.{start_none, start_next}
use Rattle.laws.specs.Members.{In, upto, map_at, upto_length, upto_at}
use Rattle.card.specs.declared.Figures.{Figures}
use Rattle.card.specs.Card.{total_positions, length_in, blocks_of}
use Rattle.placement.specs.Showing.{Showing, one, loop, pairs, visits_of, worst_of, after, pairs_of, pair_time, worst_pair}
use Rattle.pacing.specs.Shown.{round_below}
use Rattle.pacing.specs.Shelves.{worst_shelf}
use Rattle.plan.specs.Plan.{start_in, free_in, worst2_in, worst2_of}
use Rattle.layings.specs.Layings.{arrangements, listed, laid, worst_in, smallest}
use Rattle.layings.specs.Smallest.{smallest_le, smallest_least}

-- ---- the worst time looks at the film's blocks alone

-- a block that is visited once has a pair of two blocks, both of which are the film's
pub pair_below : (x : Showing) → visits_of x ≡ 1 → (N b : ℕ) → b < pairs_of x N → (b < N) × (after x N b < N)
pair_below one v N b h = omega arith
pair_below loop v N b h = (h, round_below N b h)
pair_below pairs v N b h = absurd (omega arith)

pub pair_of_two : (x : Showing) → visits_of x ≡ 1 → (τ l : ℕ → ℕ) (N b : ℕ) → pair_time x τ l N b ≡ τ (l b) + τ (l (after x N b))
pair_of_two one v τ l N b = refl
pair_of_two loop v τ l N b = refl
pair_of_two pairs v τ l N b = absurd (omega arith)

pub worst_same : (x : Showing) → visits_of x ≡ 1 → (τ σ l m : ℕ → ℕ) (N : ℕ) → ((b : ℕ) → b < N → τ (l b) ≡ σ (m b)) → worst_of x τ l N ≡ worst_of x σ m N
worst_same x v τ σ l m N e =
    worst_pair x τ l N
    ∙ greatest_of_same (pair_time x τ l N) (pair_time x σ m N) (pairs_of x N)
    (λ b h. let u = pair_below x v N b h in
    omega (arith, e b u.0, e (after x N b) u.1, pair_of_two x v τ l N b, pair_of_two x v σ m N b))
    ∙ sym (worst_pair x σ m N)

-- ---- a shelf of one film (ticket 14)

-- the first film has the whole disk
pub first_free : (x : Showing) (f : Figures) → free_in x f 0 ≡ total_positions f
first_free x f = ap (λ (s : ℕ). total_positions f - visits_of x * s) (start_none (length_in f)) ∙ omega arith

-- the only film's blocks are all
pub single_blocks : (f : Figures) → f.films ≡ 1 → blocks_of f ≡ length_in f 0
single_blocks f alone = ap (start_in f) alone ∙ omega (arith, start_next (length_in f) 0, start_none (length_in f))

-- and worst2 is its own
pub single_worst : (x : Showing) (f : Figures) → f.films ≡ 1 → worst2_of x f ≡ worst2_in x f 0
unfolding worst2_of worst_shelf greatest_of
single_worst x f alone = rw alone (omega arith)

-- ---- THE SMALLEST IS THE PLANNER'S (T12.2)

pub listed_at : (l : ℕ → ℕ) (N b : ℕ) → b < N → laid (listed l N) b ≡ l b
listed_at l N b h = map_at l (upto 0 N) b 0 0 (omega (arith, upto_length 0 N)) ∙ ap l (upto_at 0 N b 0 h ∙ omega arith)

pub smallest_of : (ws : List ℕ) (w : ℕ) → In w ws → ((v : ℕ) → In v ws → w ≤ v) → smallest ws ≡ w
smallest_of [] w h low = absurd h
smallest_of (v ∷ vs) w h low = le_antisymm (smallest_le (v ∷ vs) w h) (smallest_least w v vs low)

-- ---- over the times of the film's positions

-- the worst times of all orders of n times
unfoldable pub orders_tried : Showing → ℕ → List ℕ → List ℕ
orders_tried x N ts = map (worst_in x (λ t. t) N) (arrangements N ts)
