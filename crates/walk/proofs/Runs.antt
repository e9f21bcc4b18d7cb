-- A run of blocks that lie in the same two zones.
-- Assumes nothing.
use Prim.Native.Nat.{ℕ, suc, ◌+◌, ◌-◌, ◌%◌, ◌≤◌, ◌<◌}
use mathlib.Core.Path.{◌≡◌, refl, sym}
use mathlib.Core.Bool.{Bool, true, false, cond}
use mathlib.Core.List.{List}
use native.Mathlib.Omega.{arith}
use lib.ListN.{get_or}
use lib.Dec.{eqb}
use borrow.Author.Tests.{eqb-true, eqb-false}
use Rattle.placement.specs.Zones.{time_at}
use Rattle.plan.specs.Disk.{OnDisk}
use Rattle.zones.specs.declared.Zone.{Zone}
use Rattle.zones.specs.Cursor.{Holds}
use Rattle.zones.proofs.Cursors.{time_held}
use Rattle.walk.specs.Walk.{RunEnd, side_of, Runs}

-- one of two successive blocks is even
pub both_sides : (even odd k : ℕ) → side_of even odd k + side_of even odd (suc k) ≡ even + odd
both_sides even odd k = go (eqb (k % 2) 0) refl (eqb (suc k % 2) 0) refl
  where
    go : (x : Bool) → eqb (k % 2) 0 ≡ x → (y : Bool) → eqb (suc k % 2) 0 ≡ y → cond x even odd + cond y even odd ≡ even + odd
    go true d true e = absurd (omega (arith, eqb-true))
    go true d false e = refl
    go false d true e = omega arith
    go false d false e = absurd (omega (arith, eqb-false (k % 2) 0 d, eqb-false (suc k % 2) 0 e))

module _ (ps ts : List ℕ) (P N : ℕ) (l : ℕ → ℕ) (b : ℕ) (film : OnDisk ps ts P N) (low high : Zone) (t : ℕ)
    (inner : Holds ps low (l (b + b % 2))) (outer : Holds ps high (l (b + 1 - b % 2))) (e : RunEnd N l b low high t) where
  -- the time of a block that lies in its zone
  time_of_law : (k : ℕ) → (k % 2 ≡ 0 → (low.first ≤ l k) × (l k < low.end)) → (k % 2 ≡ 1 → (high.first ≤ l k) × (l k < high.end))
      → time_at ps ts (l k) ≡ side_of (get_or ts low.index 0) (get_or ts high.index 0) k
  time_of_law k x y = go (eqb (k % 2) 0) refl
    where
      go : (z : Bool) → eqb (k % 2) 0 ≡ z → time_at ps ts (l k) ≡ cond z (get_or ts low.index 0) (get_or ts high.index 0)
      go true d = let h = x (eqb-true (k % 2) 0 d) in sym (time_held ps ts low (l k) (record { zone = inner.zone; from = h.0; to = h.1 }))
      go false d = let h = y (omega (arith, eqb-false (k % 2) 0 d)) in sym (time_held ps ts high (l k) (record { zone = outer.zone; from = h.0; to = h.1 }))

  -- block b and the next one do
  near : (k : ℕ) → b ≤ k → k ≤ suc b → time_at ps ts (l k) ≡ side_of (get_or ts low.index 0) (get_or ts high.index 0) k
  near k i j = time_of_law k
      (λ x. let d : b + b % 2 ≡ k = omega arith in
      let h : (low.first ≤ l (b + b % 2)) × (l (b + b % 2) < low.end) = (inner.from, inner.to) in rw d at h)
      (λ x. let d : b + 1 - b % 2 ≡ k = omega arith in
      let h : (high.first ≤ l (b + 1 - b % 2)) × (l (b + 1 - b % 2) < high.end) = (outer.from, outer.to) in rw d at h)

  pub run_is : Runs ps ts l N b (record { low = low; high = high; even = get_or ts low.index 0; odd = get_or ts high.index 0; until = t })
  run_is = record {
    cursors = record { low = inner.zone; high = outer.zone };
    ahead = e.ahead;
    within = e.within;
    times = λ k i j. time_of_law k (e.even k i j) (e.odd k i j);
    pair = omega (
      arith,
      near b (omega arith) (omega arith),
      near (suc b) (omega arith) (omega arith),
      both_sides (get_or ts low.index 0) (get_or ts high.index 0) b,
    );
    even = film.disk.quick low.index;
    odd = film.disk.quick high.index;
  }
