-- Of a sweep: the slots from n on stay free, no more is fetched than there are slots below it, and a draw that passes both tests.
-- Assumes nothing.
use Prim.Native.Nat.{ℕ, zero, suc, ◌≤◌, ◌<◌}
use Rattle.std.specs.Prelude.{◌≡◌, true, cond, ◌||◌}
use Rattle.std.proofs.Math.Bool.{Bool}
use mathlib.Core.List.{List, [], ◌∷◌}
use native.Mathlib.Omega.{arith}
use Rattle.std.proofs.Math.ListN.{get_or}
use Rattle.std.proofs.Math.Dec.{eqb}
use borrow.Author.Tests.{leb-true, ne_eqb}
use Rattle.laws.specs.Bools.{bit_le, and_left, and_right, cond_le}
use Rattle.laws.specs.Runs.{sum_by}
use Rattle.laws.specs.Each.{EachFrom, Both, both_at}
use Rattle.laws.specs.Indices.{all_from}
use Rattle.rules.specs.Supply.{Supply}
use Rattle.numbers.specs.Slots.{playing, draining}
use Rattle.rules.specs.Scheduler.{Slot, free_slot, is_fetched, fetch_count, draw_limit}
use Rattle.rules.specs.Refusals.{draw_allowed, draw_held}
use Rattle.turns.specs.Facts.{FreeFrom}
use Rattle.turns.specs.Orderly.{Kept, kept_refl}
use Rattle.turns.specs.Slots.{fetched_other}

module _ {A : Type 0} (p : Supply A) where
  pub kept_free : (m : ℕ) (ss ts : List (Slot A)) → Both Kept ss ts → FreeFrom p m ss → FreeFrom p m ts
  kept_free m ss ts k u i l =
      let q = both_at Kept ss ts i (free_slot p) (free_slot p) k (kept_refl (free_slot p)) in omega (arith, q.occupied, u i l)

  pub fetches_le : (m : ℕ) (ss : List (Slot A)) → FreeFrom p m ss → fetch_count p ss ≤ m
  unfolding fetch_count sum_by
  fetches_le m [] u = omega arith
  fetches_le zero (s ∷ ss) u =
      rw (fetched_other p s (λ a b. omega (arith, u 0 (omega arith)))) (omega (arith, fetches_le zero ss (λ i l. u (suc i) (omega arith))))
  fetches_le (suc m) (s ∷ ss) u = omega (arith, bit_le (is_fetched p s), fetches_le m ss (λ i l. u (suc i) (omega arith)))

  -- the two tests of a draw, m being the most
  pub record Drawable (m : ℕ) (s : Slot A) (d : ℕ) : Type 0 where
    pub held : d ≤ s.buffered
    pub most : d ≤ m
    pub still : s.kind < 3 → d ≡ 0

  pub drawable_of : (m : ℕ) (ds : List ℕ) (i : ℕ) (s : Slot A) → draw_allowed p m ds i s ≡ true → draw_held p ds i s ≡ true → Drawable m s (get_or ds i 0)
  unfolding draw_allowed draw_held draw_limit
  drawable_of m ds i s e h =
      let d : ℕ = get_or ds i 0 in
      let t : Bool = eqb s.kind playing || eqb s.kind draining in
      let a = leb-true d (cond t m 0) e in
      record {
        held = leb-true d s.buffered h;
        most = omega (arith, cond_le t m);
        still = λ k. omega (arith, rw (ne_eqb s.kind playing (λ z. omega arith), ne_eqb s.kind draining (λ z. omega arith)) at a);
      }

  abbrev pub Drawables : ℕ → List ℕ → ℕ → List (Slot A) → Type 0
  Drawables m ds i ss = EachFrom (λ j s. Drawable m s (get_or ds j 0)) i ss

  pub drawables_of : (m : ℕ) (ds : List ℕ) (i : ℕ) (ss : List (Slot A))
      → all_from (draw_allowed p m ds) i ss ≡ true → all_from (draw_held p ds) i ss ≡ true → Drawables m ds i ss
  unfolding all_from
  drawables_of m ds i [] e h = tt
  drawables_of m ds i (s ∷ ss) e h = (
    drawable_of m ds i s (and_left (draw_allowed p m ds i s) _ e) (and_left (draw_held p ds i s) _ h),
    drawables_of m ds (suc i) ss (and_right (draw_allowed p m ds i s) _ e) (and_right (draw_held p ds i s) _ h),
  )
