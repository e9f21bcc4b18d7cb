-- Films in every showing, by the numbers of their blocks: what paces them, and their leads.
-- Assumes nothing.
use Prim.Native.Nat.{ℕ, zero, suc, ◌+◌, ◌*◌, ◌-◌, ◌≤◌, ◌<◌}
use Rattle.std.specs.Prelude.{◌≡◌, true, List}
use Rattle.std.proofs.Math.Path.{refl}
use Rattle.std.proofs.Math.Logic.{by_cases}
use Rattle.std.proofs.Common.{arith, ltb-true, lt-ltb, le-ltb}
use Rattle.std.proofs.Math.Decide.{dec_lt}
use Rattle.std.proofs.lemmas.Bool.{eqb-false}
use Rattle.laws.specs.Bools.{and_both}
use Rattle.placement.specs.Circle.{round}
use Rattle.placement.specs.CircleBest.{round_last, round_next}
use Rattle.placement.specs.Showing.{Showing, one, loop, pairs, after}
use Rattle.pacing.specs.Film.{Paced, row, lead, shown}
use Rattle.pacing.specs.Lead.{lead_none, lead_closed}

pub round_below : (N b : ℕ) → b < N → round N b < N
round_below N b u = by_cases (dec_lt (suc b) N) (λ h. omega (arith, round_next N b h)) (λ h. omega (arith, round_last N b (omega arith)))

module _ (N : ℕ) (time position : ℕ → ℕ) (others : ℕ → List ℕ) where
  -- blocks in a row up to the film's end are its blocks
  pub once_in : (j b : ℕ) → b + j ≤ N → row (shown one N time position others) j b ≡ true
  unfolding row
  once_in zero b h = refl
  once_in (suc j) b h = and_both (lt-ltb b N (omega arith)) (once_in j (suc b) (omega arith))

  -- and so are any on the circle
  pub loop_in : (j b : ℕ) → b < N → row (shown loop N time position others) j b ≡ true
  unfolding row
  loop_in zero b h = refl
  loop_in (suc j) b h = and_both (lt-ltb b N h) (loop_in j (round N b) (round_below N b h))

  -- paced by what bounds its blocks and its pairs, up to the film's end
  line_paced : (w m : ℕ) → ((b : ℕ) → b < N → suc b < N → time b + time (suc b) ≤ w) → ((b : ℕ) → b < N → time b ≤ m)
      → Paced (shown one N time position others) w m
  line_paced w m two slow = record {
    goes = λ b e q. lt-ltb (suc b) N (omega (arith, ltb-true b N e, eqb-false (suc b) N q));
    pairs = λ b e q. two b (ltb-true b N e) (ltb-true (suc b) N q);
    slow = λ b e. slow b (ltb-true b N e);
    runs = λ b e. omega (arith, ltb-true b N e);
  }

  -- the same in every showing: in a loop that of last and first too
  pub shown_paced : (x : Showing) (w m : ℕ) → ((b : ℕ) → b < N → after x N b < N → time b + time (after x N b) ≤ w) → ((b : ℕ) → b < N → time b ≤ m)
      → Paced (shown x N time position others) w m
  shown_paced one w m two slow = line_paced w m two slow
  shown_paced pairs w m two slow = line_paced w m two slow
  shown_paced loop w m two slow = record {
    goes = λ b e q. lt-ltb (round N b) N (round_below N b (ltb-true b N e));
    pairs = λ b e q. two b (ltb-true b N e) (ltb-true (round N b) N q);
    slow = λ b e. slow b (ltb-true b N e);
    runs = λ b e. omega (arith, ltb-true b N e);
  }

  -- lead(N)
  pub shown_end : (x : Showing) (w : ℕ) → lead (shown x N time position others) w N ≡ 0
  shown_end x w = lead_none (shown x N time position others) w N (le-ltb N N (omega arith))

  -- a lead as code computes it
  pub shown_lead : (x : Showing) (w m : ℕ) → Paced (shown x N time position others) w m → (b : ℕ) → b < N
      → lead (shown x N time position others) w b ≡ 2 * time b - w
  shown_lead x w m ok b u = lead_closed (shown x N time position others) w m ok b (lt-ltb b N u)
