-- What the pairs of successive blocks of a row take, where each block is visited once.
-- Assumes nothing.
use Rattle.std.proofs.Common.{ℕ, ◌+◌, ◌≤◌, ◌<◌, max, ◌≡◌, refl, sym, ap, ◌∙◌, List, length, get_or, arith, add-one}
use Rattle.laws.specs.Each.{Each, each_at}
use Rattle.laws.specs.Greatest.{greatest_of}
use Rattle.numbers.specs.Limits.{max_time, max_tried}
use Rattle.placement.specs.Circle.{round}
use Rattle.placement.specs.CircleBest.{round_next}
use Rattle.placement.specs.Showing.{Showing, one, loop, pairs, visits_of, after, pairs_of, pair_time, worst_pair, walked_single}
use Rattle.plan.specs.Plan.{showing_of, walk_of}
use Rattle.layings.specs.Layings.{laid, worst_in}
use Rattle.layings.specs.Times.{pair_below, pair_of_two}

-- what the pair of block b takes
abbrev pub taken : ℕ → ℕ → List ℕ → ℕ → ℕ
taken showing blocks row = pair_time (walk_of showing) (λ (t : ℕ). t) (laid row) blocks

-- no word tells a search of two visits a block
abbrev single : (w : ℕ) → visits_of (walk_of w) ≡ 1
single w = walked_single (showing_of w)

-- where a block is visited once the block after is the one round the film
after-round : (x : Showing) → visits_of x ≡ 1 → (N b : ℕ) → b < pairs_of x N → after x N b ≡ round N b
after-round one v N b h = sym (round_next N b (omega arith))
after-round loop v N b h = refl
after-round pairs v N b h = absurd (omega arith)

greatest-next : (g : ℕ → ℕ) (b : ℕ) → greatest_of g (b + 1) ≡ max (g b) (greatest_of g b)
unfolding greatest_of
greatest-next g b = rw (add-one b)

-- a time of the row is small
pub time_small : (row : List ℕ) (i : ℕ) → Each (λ (t : ℕ). t ≤ max_time) row → length row ≡ max_tried → i < max_tried → get_or row i 0 ≤ max_time
time_small row i h l u = each_at (λ (t : ℕ). t ≤ max_time) row i 0 h (omega arith)

-- both blocks of a pair are the film's
pub inside : (showing N b : ℕ) → b < pairs_of (walk_of showing) N → (b < N) × (round N b < N)
inside showing N b h =
    let p = pair_below (walk_of showing) (single showing) N b h in (p.0, omega (arith, p.1, after-round (walk_of showing) (single showing) N b h))

-- one pair more
pub worst_next : (showing N : ℕ) (row : List ℕ) (b worst : ℕ) → b < pairs_of (walk_of showing) N → worst ≡ greatest_of (taken showing N row) b
    → max worst (get_or row b 0 + get_or row (round N b) 0) ≡ greatest_of (taken showing N row) (b + 1)
worst_next showing N row b worst h e =
    let x = walk_of showing in
    let g = taken showing N row in
    let q : g b ≡ get_or row b 0 + get_or row (round N b) 0 =
    pair_of_two x (single showing) (λ (t : ℕ). t) (laid row) N b
    ∙ ap (λ (k : ℕ). get_or row b 0 + get_or row k 0) (after-round x (single showing) N b h) in omega (arith, greatest-next g b)

pub worst_last : (showing N : ℕ) (row : List ℕ) (b worst : ℕ) → b ≡ pairs_of (walk_of showing) N → worst ≡ greatest_of (taken showing N row) b
    → worst ≡ worst_in (walk_of showing) (λ t. t) N row
worst_last showing N row b worst e h =
    h ∙ ap (greatest_of (taken showing N row)) e ∙ sym (worst_pair (walk_of showing) (λ (t : ℕ). t) (laid row) N)
