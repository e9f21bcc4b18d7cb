-- Zones as two lists, innermost zone first: the positions of each and the time of each. Zero entries may follow the last zone.
-- Assumes nothing.
use Rattle.std.specs.Prelude.{ℕ, zero, suc, ◌+◌, ◌-◌, ◌≤◌, ◌<◌, ◌≡◌, refl, Bool, true, false, cond, List, [], ◌∷◌, length, get_or, take, ltb}
use Rattle.std.proofs.Math.Logic.{by_cases}
use Rattle.std.proofs.Common.{arith, ltb-true, ltb-false, lt-ltb, le-ltb}
use Rattle.std.proofs.Math.Decide.{dec_lt}
use Rattle.laws.specs.Runs.{sum_by, sum_turn}
use Rattle.placement.specs.Placement.{Falling}

-- P, the total of the positions of the zones
unfoldable pub total : List ℕ → ℕ
total ps = sum_by (λ p. p) ps

-- the time to read a block at position q (P2): that of the zone that q is in, positions counted from the innermost zone on
unfoldable pub time_at : List ℕ → List ℕ → ℕ → ℕ
time_at [] ts q = 0
time_at (p ∷ ps) [] q = 0
time_at (p ∷ ps) (t ∷ ts) q = cond (ltb q p) t (time_at ps ts (q - p))

-- zone times never rise (K4)
unfoldable pub Descending : List ℕ → Type 0
Descending ts = (i : ℕ) → suc i < length ts → get_or ts (suc i) 0 ≤ get_or ts i 0

-- ---- the total

-- one zone more
pub total_turn : (ps : List ℕ) (i : ℕ) → i < length ps → total (take (suc i) ps) ≡ total (take i ps) + get_or ps i 0
unfolding total
total_turn ps i h = sum_turn 0 (λ p. p) ps i h

pub total_take : (ps : List ℕ) (z : ℕ) → total (take z ps) ≤ total ps
unfolding total sum_by
total_take ps zero = omega arith
total_take [] (suc z) = omega arith
total_take (p ∷ ps) (suc z) = omega (arith, total_take ps z)

-- the zones below z have all the positions where the entries from z on are zero
pub total_first : (ps : List ℕ) (z : ℕ) → ((i : ℕ) → z ≤ i → get_or ps i 0 ≡ 0) → total (take z ps) ≡ total ps
unfolding total sum_by
total_first [] zero rest = refl
total_first [] (suc z) rest = refl
total_first (p ∷ ps) zero rest = omega (arith, rest 0 (omega arith), total_first ps zero (λ i h. rest (suc i) (omega arith)))
total_first (p ∷ ps) (suc z) rest = omega (arith, total_first ps z (λ i h. rest (suc i) (omega arith)))

-- ---- the zone of a position

-- a position is in zone i, and there its time is that of zone i
pub time_at_zone : (ps ts : List ℕ) (i q : ℕ) → total (take i ps) ≤ q → q < total (take (suc i) ps) → time_at ps ts q ≡ get_or ts i 0
unfolding total sum_by time_at
time_at_zone [] ts zero q lo hi = absurd (omega arith)
time_at_zone [] ts (suc i) q lo hi = absurd (omega arith)
time_at_zone (p ∷ ps) [] i q lo hi = refl
time_at_zone (p ∷ ps) (t ∷ ts) zero q lo hi = rw (lt-ltb q p (omega arith))
time_at_zone (p ∷ ps) (t ∷ ts) (suc i) q lo hi = rw (le-ltb q p (omega arith)) (time_at_zone ps ts i (q - p) (omega arith) (omega arith))

-- every position is in a zone
pub zone_of : (ps : List ℕ) (q : ℕ) → q < total ps → (i : ℕ) × (i < length ps) × (total (take i ps) ≤ q) × (q < total (take (suc i) ps))
unfolding total sum_by
zone_of [] q h = absurd (omega arith)
zone_of (p ∷ ps) q h = by_cases (dec_lt q p)
    (λ u. (0, omega arith, omega arith, omega arith))
    (λ u. let (i, l, lo, hi) = zone_of ps (q - p) (omega arith) in (suc i, omega arith, omega arith, omega arith))

-- what holds of the time of each zone below z holds of the time of each of their positions
pub time_at_each : (Q : ℕ → Type 0) (ps ts : List ℕ) (z q : ℕ) → ((i : ℕ) → i < z → Q (get_or ts i 0)) → q < total (take z ps) → Q (time_at ps ts q)
unfolding total sum_by time_at
time_at_each Q [] ts zero q each h = absurd (omega arith)
time_at_each Q [] ts (suc z) q each h = absurd (omega arith)
time_at_each Q (p ∷ ps) ts zero q each h = absurd (omega arith)
time_at_each Q (p ∷ ps) [] (suc z) q each h = each 0 (omega arith)
time_at_each Q (p ∷ ps) (t ∷ ts) (suc z) q each h =
    go (ltb q p) refl (λ u. time_at_each Q ps ts z (q - p) (λ i v. each (suc i) (omega arith)) u)
  where
    go : (x : Bool) → ltb q p ≡ x → (q - p < total (take z ps) → Q (time_at ps ts (q - p))) → Q (cond x t (time_at ps ts (q - p)))
    go true e ih = each 0 (omega arith)
    go false e ih = ih (omega (arith, ltb-false))

pub time_at_positive : (ps ts : List ℕ) (z q : ℕ) → ((i : ℕ) → i < z → 0 < get_or ts i 0) → q < total (take z ps) → 0 < time_at ps ts q
time_at_positive ps ts z q each h = time_at_each (λ t. 0 < t) ps ts z q each h

pub time_at_within : (ps ts : List ℕ) (z q m : ℕ) → ((i : ℕ) → i < z → get_or ts i 0 ≤ m) → q < total (take z ps) → time_at ps ts q ≤ m
time_at_within ps ts z q m each h = time_at_each (λ t. t ≤ m) ps ts z q each h

-- ---- times never rise

-- the entries below z never rise, and zero entries follow
pub descending_first : (ts : List ℕ) (z : ℕ) → ((i : ℕ) → suc i < z → get_or ts (suc i) 0 ≤ get_or ts i 0) → ((i : ℕ) → z ≤ i → get_or ts i 0 ≡ 0) → Descending ts
unfolding Descending
descending_first ts z falls rest i l = by_cases (dec_lt (suc i) z) (λ h. falls i h) (λ h. omega (arith, rest (suc i) (omega arith)))

descending_tail : (t : ℕ) (ts : List ℕ) → Descending (t ∷ ts) → Descending ts
unfolding Descending
descending_tail t ts d i l = d (suc i) (omega arith)

descending_head : (t : ℕ) (ts : List ℕ) → Descending (t ∷ ts) → get_or ts 0 0 ≤ t
unfolding Descending
descending_head t [] d = omega arith
descending_head t (u ∷ ts) d = d 0 (omega arith)

-- the innermost zone is the slowest
pub time_at_first : (ps ts : List ℕ) (q : ℕ) → Descending ts → time_at ps ts q ≤ get_or ts 0 0
unfolding time_at
time_at_first [] ts q d = omega arith
time_at_first (p ∷ ps) [] q d = omega arith
time_at_first (p ∷ ps) (t ∷ ts) q d = go (ltb q p) (time_at_first ps ts (q - p) (descending_tail t ts d))
  where
    go : (x : Bool) → time_at ps ts (q - p) ≤ get_or ts 0 0 → cond x t (time_at ps ts (q - p)) ≤ t
    go true ih = omega arith
    go false ih = omega (arith, descending_head t ts d)

pub time_at_falls : (ps ts : List ℕ) → Descending ts → (p q : ℕ) → p ≤ q → time_at ps ts q ≤ time_at ps ts p
unfolding time_at
time_at_falls [] ts d a b h = omega arith
time_at_falls (p ∷ ps) [] d a b h = omega arith
time_at_falls (p ∷ ps) (t ∷ ts) d a b h =
    go (ltb a p) refl (ltb b p) refl (λ u. time_at_falls ps ts (descending_tail t ts d) (a - p) (b - p) u)
  where
    go : (x : Bool) → ltb a p ≡ x → (y : Bool) → ltb b p ≡ y → (a - p ≤ b - p → time_at ps ts (b - p) ≤ time_at ps ts (a - p))
        → cond y t (time_at ps ts (b - p)) ≤ cond x t (time_at ps ts (a - p))
    go true e true f ih = omega arith
    go true e false f ih = omega (arith, time_at_first ps ts (b - p) (descending_tail t ts d), descending_head t ts d)
    go false e true f ih = absurd (omega (arith, ltb-true, ltb-false))
    go false e false f ih = ih (omega arith)

-- so the times of the positions of the zones are falling ones
pub zones_falling : (ps ts : List ℕ) → Descending ts → Falling (total ps) (time_at ps ts)
unfolding Falling
zones_falling ps ts d p q h u = time_at_falls ps ts d p q h
