-- Each way that the second planner can answer, and that it answers as the planner does.
-- Assumes nothing.
use Prim.Native.Nat.{ℕ, zero, suc, ◌*◌, ◌/◌, ◌<◌}
use Rattle.std.specs.Prelude.{◌≡◌, List, map, length, take, ltb}
use Rattle.std.proofs.Math.Path.{refl}
use Rattle.std.proofs.Common.{ap, ap₂, ◌∙◌, arith}
use borrow.Author.Tests.{lt-ltb}
use Rattle.numbers.specs.Limits.{max_streams}
use Rattle.numbers.specs.Refusals.{film_too_long}
use Rattle.card.specs.declared.Figures.{Figures}
use Rattle.card.specs.declared.CardRead.{CardRead}
use Rattle.card.specs.Card.{Legal, total_positions, length_in}
use Rattle.placement.specs.Showing.{Showing, one, loop, pairs, visits_of}
use Rattle.pacing.specs.Streams.{overhead, streams, cap_of}
use Rattle.plan.specs.Plan.{time_on, over_of}
use Rattle.layings.specs.Layings.{film_positions, smallest, how_many, times_tried, least_of, count_of}
use Rattle.layings.specs.Times.{orders_tried}
use Rattle.layings.proofs.Times.{orders_are}
use Rattle.try_all.specs.Answer.{Few, tried_fault, not_tried, tried_by, tried}

module _ (x : Showing) (r : CardRead) where
  -- the figures are refused
  pub by_figures : (r.verdict.number ≡ 0 → ⊥) → not_tried r.verdict.number r.verdict.place ≡ tried x r
  unfolding tried
  by_figures n = go r.verdict.number n
    where
      go : (k : ℕ) → (k ≡ 0 → ⊥) → not_tried k r.verdict.place ≡ tried_by x k (tried_fault x r.figures) r
      go zero n = absurd (n refl)
      go (suc k) n = refl

  -- 29: films beside the first
  pub by_films : r.verdict.number ≡ 0 → 1 < r.figures.films → not_tried film_too_long 0 ≡ tried x r
  unfolding tried tried_fault
  by_films e h = rw (e, lt-ltb 1 r.figures.films h)

  module _ (e : r.verdict.number ≡ 0) (few : Few r.figures) (w : ℕ) (least : w ≡ least_of x r.figures) where
    -- the streams, as the formula gives them
    abbrev pub fed : ℕ → ℕ
    fed v = streams (cap_of x) r.figures.rate v (over_of x r.figures) r.figures.bytes

-- the streams of blocks that are visited once, as they are counted
pub fed_once : (x : Showing) → visits_of x ≡ 1 → (f : Figures) (w : ℕ)
    → streams (max_streams / 1) f.rate w (λ k. overhead f.table (1 * k)) f.bytes ≡ streams (cap_of x) f.rate w (over_of x f) f.bytes
fed_once one v f w = refl
fed_once loop v f w = refl
fed_once pairs v f w = absurd (omega arith)

-- the only film of a legal shelf
pub alone : (f : Figures) → Legal 1 f → Few f → f.films ≡ 1
alone f ok few = omega (arith, ok.films)

-- what the search finds, from the times of the film's positions
pub found_is : (x : Showing) → visits_of x ≡ 1 → (f : Figures) (times : List ℕ) (w n : ℕ)
    → take (length_in f 0) times ≡ map (time_on f) (film_positions (total_positions f) (length_in f 0))
    → w ≡ smallest (orders_tried x (length_in f 0) (take (length_in f 0) times)) → n ≡ how_many w (orders_tried x (length_in f 0) (take (length_in f 0) times))
    → (w ≡ least_of x f) × (n ≡ count_of x f)
unfolding least_of count_of times_tried
found_is x v f times w n t e d =
    let q = ap (orders_tried x (length_in f 0)) t ∙ orders_are x v (time_on f) (total_positions f) (length_in f 0) in
    let u = e ∙ ap smallest q in
    (u, d ∙ ap₂ how_many u q)
