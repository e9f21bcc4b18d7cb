-- The smallest of some numbers and how many of them it is, as a search finds them one by one.
-- Assumes nothing.
use Rattle.std.specs.Prelude.{ℕ, ◌+◌, ◌≤◌, ◌<◌, min, ◌≡◌, length, eqb}
use Rattle.std.proofs.Math.Path.{refl}
use Rattle.std.proofs.Common.{sym, inl, inr}
use mathlib.Core.List.{List, [], ◌∷◌, ◌++◌}
use native.Mathlib.Omega.{arith}
use Rattle.std.proofs.Math.ListN.{length-append}
use borrow.Author.Tests.{eq-eqb, ne_eqb}
use Rattle.laws.specs.Bools.{bit}
use Rattle.laws.specs.Members.{In}
use Rattle.numbers.specs.Limits.{max_number}
use Rattle.layings.specs.Layings.{smallest, how_many}

-- ---- what they are

pub smallest_le : (ws : List ℕ) (w : ℕ) → In w ws → smallest ws ≤ w
unfolding smallest
smallest_le [] w h = absurd h
smallest_le (v ∷ []) w (inl e) = omega arith
smallest_le (v ∷ []) w (inr h) = absurd h
smallest_le (v ∷ u ∷ us) w (inl e) = omega arith
smallest_le (v ∷ u ∷ us) w (inr h) = omega (arith, smallest_le (u ∷ us) w h)

pub smallest_least : (b w : ℕ) (ws : List ℕ) → ((v : ℕ) → In v (w ∷ ws) → b ≤ v) → b ≤ smallest (w ∷ ws)
unfolding smallest
smallest_least b w [] h = h w (inl refl)
smallest_least b w (v ∷ vs) h = omega (arith, h w (inl refl), smallest_least b v vs (λ u k. h u (inr k)))

-- none is below the smallest
pub how_many_none : (w : ℕ) (ws : List ℕ) → w < smallest ws → how_many w ws ≡ 0
unfolding smallest how_many
how_many_none w [] h = refl
how_many_none w (v ∷ []) h = rw (ne_eqb v w (omega arith)) (omega arith)
how_many_none w (v ∷ u ∷ us) h = rw (ne_eqb v w (omega arith)) (omega (arith, how_many_none w (u ∷ us) (omega arith)))

-- ---- one more

pub smallest_more : (w v : ℕ) (ws : List ℕ) → smallest ((w ∷ ws) ++ (v ∷ [])) ≡ min (smallest (w ∷ ws)) v
unfolding smallest
smallest_more w v [] = refl
smallest_more w v (u ∷ us) = omega (arith, smallest_more u v us)

pub how_many_more : (w v : ℕ) (ws : List ℕ) → how_many w (ws ++ (v ∷ [])) ≡ how_many w ws + bit (eqb v w)
unfolding how_many
how_many_more w v [] = omega arith
how_many_more w v (u ∷ us) = omega (arith, how_many_more w v us)

-- ---- the best of those met so far

-- the smallest and how many it is; of none it is greater than any that will come
pub record Best (ws : List ℕ) (least count : ℕ) : Type 0 where
  pub few : count ≤ length ws
  pub none : length ws ≡ 0 → least ≡ max_number
  pub some : 0 < length ws → (least ≡ smallest ws) × (count ≡ how_many (smallest ws) ws)

pub best_none : Best [] max_number 0
best_none = record { few = omega arith; none = λ e. refl; some = λ h. absurd (omega arith) }

module _ (least count v : ℕ) where
  -- one that is smaller than some
  best_less_some : (w : ℕ) (ws : List ℕ) → v < least → Best (w ∷ ws) least count → Best ((w ∷ ws) ++ (v ∷ [])) v 1
  best_less_some w ws h b =
      let m = smallest_more w v ws in
      let s = b.some (omega arith) in
      let q : smallest ((w ∷ ws) ++ (v ∷ [])) ≡ v = omega arith in
      record {
        few = omega (arith, length-append (w ∷ ws) (v ∷ []));
        none = λ z. absurd (omega (arith, length-append (w ∷ ws) (v ∷ [])));
        some = λ k. (sym q, rw q (rw (how_many_more v v (w ∷ ws), eq-eqb v v refl, how_many_none v (w ∷ ws) (omega arith)) (omega arith)));
      }

  -- one that is smaller
  pub best_less : (ws : List ℕ) → v < least → Best ws least count → Best (ws ++ (v ∷ [])) v 1
  unfolding smallest how_many
  best_less [] h b = record { few = omega arith; none = λ z. absurd (omega arith); some = λ k. (refl, rw (eq-eqb v v refl) (omega arith)) }
  best_less (w ∷ ws) h b = best_less_some w ws h b

  -- one that is as small
  pub best_equal : (ws : List ℕ) → v < max_number → v ≡ least → Best ws least count → Best (ws ++ (v ∷ [])) least (count + 1)
  best_equal [] p h b = absurd (omega (arith, b.none refl))
  best_equal (w ∷ ws) p h b =
      let m = smallest_more w v ws in
      let s = b.some (omega arith) in
      let q : smallest ((w ∷ ws) ++ (v ∷ [])) ≡ smallest (w ∷ ws) = omega arith in
      record {
        few = omega (arith, length-append (w ∷ ws) (v ∷ []), b.few);
        none = λ z. absurd (omega (arith, length-append (w ∷ ws) (v ∷ [])));
        some = λ k. (omega arith, rw q (rw (how_many_more (smallest (w ∷ ws)) v (w ∷ ws), eq-eqb v (smallest (w ∷ ws)) (omega arith)) (omega arith)));
      }

  -- one that is greater
  pub best_more : (ws : List ℕ) → v < max_number → least < v → Best ws least count → Best (ws ++ (v ∷ [])) least count
  best_more [] p h b = absurd (omega (arith, b.none refl))
  best_more (w ∷ ws) p h b =
      let m = smallest_more w v ws in
      let s = b.some (omega arith) in
      let q : smallest ((w ∷ ws) ++ (v ∷ [])) ≡ smallest (w ∷ ws) = omega arith in
      record {
        few = omega (arith, length-append (w ∷ ws) (v ∷ []), b.few);
        none = λ z. absurd (omega (arith, length-append (w ∷ ws) (v ∷ [])));
        some = λ k. (omega arith, rw q (rw (how_many_more (smallest (w ∷ ws)) v (w ∷ ws), ne_eqb v (smallest (w ∷ ws)) (omega arith)) (omega arith)));
      }
