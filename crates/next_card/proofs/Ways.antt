-- Each way that a step from card to card takes.
-- Assumes nothing.
use Prim.Native.Nat.{ℕ, zero, suc, ◌+◌, ◌-◌, ◌≤◌, ◌<◌}
use mathlib.Core.Path.{◌≡◌, refl, sym}
use mathlib.Core.Bool.{Bool, true, false}
use mathlib.Core.List.{List}
use Rattle.std.specs.Prelude.{Ok, Err}
use native.Mathlib.Omega.{arith}
use lib.ListN.{length, get_or, set}
use lib.Seq.{set_out}
use borrow.Author.Tests.{lt-ltb, le-ltb}
use Rattle.small_cards.specs.declared.SmallCard.{SmallCard}
use Rattle.small_cards.specs.Next.{limit_of, risen, most_blocks, zone_more, times_more, next_card}

-- ---- the most of an entry

pub limit_first : (falls : Bool) (ds : List ℕ) (i : ℕ) → i ≡ 0 → 3 ≡ limit_of falls ds i
unfolding limit_of
limit_first falls ds i e = rw e

pub limit_falls : (falls : Bool) (ds : List ℕ) (i : ℕ) → (i ≡ 0 → ⊥) → falls ≡ true → get_or ds (i - 1) 0 ≡ limit_of falls ds i
unfolding limit_of
limit_falls falls ds zero n e = absurd (n refl)
limit_falls falls ds (suc i) n e = let d : suc i - 1 ≡ i = omega arith in rw (e, d)

pub limit_free : (falls : Bool) (ds : List ℕ) (i : ℕ) → (i ≡ 0 → ⊥) → falls ≡ false → 3 ≡ limit_of falls ds i
unfolding limit_of
limit_free falls ds zero n e = absurd (n refl)
limit_free falls ds (suc i) n e = rw e

-- ---- one entry rises

module _ (falls : Bool) (ds : List ℕ) where
  pub risen_here : (i : ℕ) → 0 < i → get_or ds (i - 1) 0 < limit_of falls ds (i - 1)
      → Ok (set ds (i - 1) (get_or ds (i - 1) 0 + 1)) ≡ risen falls i ds
  unfolding risen
  risen_here zero p h = absurd (omega arith)
  risen_here (suc i) p h = let e : suc i - 1 ≡ i = omega arith in rw (e, lt-ltb (get_or ds i 0) (limit_of falls ds i) (rw e at h))

  pub risen_later : (i : ℕ) → 0 < i → limit_of falls ds (i - 1) ≤ get_or ds (i - 1) 0 → risen falls (i - 1) (set ds (i - 1) 1) ≡ risen falls i ds
  unfolding risen
  risen_later zero p h = absurd (omega arith)
  risen_later (suc i) p h = let e : suc i - 1 ≡ i = omega arith in rw (e, le-ltb (get_or ds i 0) (limit_of falls ds i) (rw e at h))

  pub risen_none : (i : ℕ) → i ≡ 0 → Err ds ≡ risen falls i ds
  unfolding risen
  risen_none i e = rw e

-- ---- the next card

module _ (c : SmallCard) where
  pub zone_more_law : (ps ts : List ℕ)
      → ◌≡◌ {A = SmallCard} (record { zones = c.zones + 1; positions = set ps c.zones 1; times = set ts c.zones 1; blocks = 2 }) (zone_more c ps ts)
  unfolding zone_more
  zone_more_law ps ts = refl

  pub zone_past : (ps ts : List ℕ) → length ps ≤ c.zones → length ts ≤ c.zones
      → ◌≡◌ {A = SmallCard} (record { zones = c.zones + 1; positions = ps; times = ts; blocks = 2 }) (zone_more c ps ts)
  unfolding zone_more
  zone_past ps ts p t =
      λ i. record { zones = c.zones + 1; positions = sym (set_out ps c.zones 1 p) i; times = sym (set_out ts c.zones 1 t) i; blocks = 2 }

  pub block_more : c.blocks < most_blocks c.positions
      → ◌≡◌ {A = SmallCard} (record { zones = c.zones; positions = c.positions; times = c.times; blocks = c.blocks + 1 }) (next_card c)
  unfolding next_card
  block_more h = rw (lt-ltb c.blocks (most_blocks c.positions) h)

  pub block_none : most_blocks c.positions ≤ c.blocks → times_more c (risen true c.zones c.times) ≡ next_card c
  unfolding next_card
  block_none h = rw (le-ltb c.blocks (most_blocks c.positions) h)
