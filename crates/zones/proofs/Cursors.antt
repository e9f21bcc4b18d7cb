-- One step of a cursor over the zones, and the time that a cursor gives.
-- Assumes nothing.
use Prim.Native.Nat.{ℕ, zero, suc, ◌+◌, ◌-◌, ◌≤◌, ◌<◌}
use mathlib.Core.Path.{◌≡◌, refl, sym, ap, ◌∙◌}
use mathlib.Core.Logic.{by_cases}
use mathlib.Core.List.{List, [], ◌∷◌}
use native.Mathlib.Omega.{arith}
use native.Mathlib.Decide.{dec_lt}
use lib.ListN.{length, get_or, take}
use Rattle.laws.specs.Runs.{sum_by}
use Rattle.placement.specs.Zones.{total, time_at, total_turn, total_take, time_at_zone}
use Rattle.plan.specs.Disk.{Zoned}
use Rattle.zones.specs.declared.Zone.{Zone}
use Rattle.zones.specs.Cursor.{ZoneOf, Holds}

pub total_none : (ps : List ℕ) → total (take 0 ps) ≡ 0
unfolding total sum_by
total_none ps = refl

total_past : (ps : List ℕ) (i : ℕ) → length ps ≤ i → total (take i ps) ≡ total ps
unfolding total sum_by
total_past [] zero h = refl
total_past [] (suc i) h = refl
total_past (p ∷ ps) zero h = absurd (omega arith)
total_past (p ∷ ps) (suc i) h = omega (arith, total_past ps i (omega arith))

module _ (ps : List ℕ) where
  -- one zone more, in the code's words
  pub total_more : (i : ℕ) → i < length ps → total (take (i + 1) ps) ≡ total (take i ps) + get_or ps i 0
  total_more i h = let e : i + 1 ≡ suc i = omega arith in ap (λ (n : ℕ). total (take n ps)) e ∙ total_turn ps i h

  module _ (ok : Zoned ps) where
    -- the zone i, between the positions before it and those up to its end
    pub zone_of : (i first end : ℕ) → i < length ps → first ≡ total (take i ps) → end ≡ first + get_or ps i 0
        → ZoneOf ps (record { index = i; first = first; end = end })
    zone_of i first end h f e =
        let turn : total (take (suc i) ps) ≡ total (take i ps) + get_or ps i 0 = total_turn ps i h in
        record { number = omega (arith, ok.wide); first = f; end = omega arith; rises = omega arith; on = omega (arith, total_take ps (suc i)) }

    pub innermost_zone : ZoneOf ps (record { index = 0; first = 0; end = get_or ps 0 0 })
    innermost_zone = zone_of 0 0 (get_or ps 0 0) (omega (arith, ok.wide)) (sym (total_none ps)) (omega arith)

    module _ (z : Zone) (i : ZoneOf ps z) where
      -- the zone after one that ends before a position of the disk
      pub zone_after : z.end < total ps → ZoneOf ps (record { index = z.index + 1; first = z.end; end = z.end + get_or ps (z.index + 1) 0 })
      zone_after h =
          let e : suc z.index ≡ z.index + 1 = omega arith in
          let b : z.end ≡ total (take (z.index + 1) ps) = i.end ∙ ap (λ (n : ℕ). total (take n ps)) e in
          let room : z.index + 1 < length ps =
          by_cases (dec_lt (z.index + 1) (length ps)) (λ u. u) (λ u. absurd (omega (arith, total_past ps (z.index + 1) (omega arith)))) in
          zone_of (z.index + 1) z.end (z.end + get_or ps (z.index + 1) 0) room b refl

      -- the zone before one that does not begin at 0
      pub zone_before : 0 < z.first → (0 < z.index) × (get_or ps (z.index - 1) 0 ≤ z.first)
          × ZoneOf ps (record { index = z.index - 1; first = z.first - get_or ps (z.index - 1) 0; end = z.first })
      zone_before h = go z.index refl
        where
          go : (k : ℕ) → z.index ≡ k → (0 < z.index) × (get_or ps (z.index - 1) 0 ≤ z.first)
              × ZoneOf ps (record { index = z.index - 1; first = z.first - get_or ps (z.index - 1) 0; end = z.first })
          go zero e = absurd (omega (arith, i.first, ap (λ (n : ℕ). total (take n ps)) e, total_none ps))
          go (suc k) e =
              let d : z.index - 1 ≡ k = omega arith in
              let b : z.first ≡ total (take (suc k) ps) = i.first ∙ ap (λ (n : ℕ). total (take n ps)) e in
              let room : k < length ps = omega (arith, i.number, ok.wide) in
              let turn : total (take (suc k) ps) ≡ total (take k ps) + get_or ps k 0 = total_turn ps k room in
              rw d (omega arith, omega arith, zone_of k (z.first - get_or ps k 0) z.first room (omega arith) (omega arith))

pub time_held : (ps ts : List ℕ) (z : Zone) (q : ℕ) → Holds ps z q → get_or ts z.index 0 ≡ time_at ps ts q
time_held ps ts z q h =
    sym (time_at_zone ps ts z.index q (omega (arith, h.from, h.zone.first)) (omega (arith, h.to, h.zone.end)))
