-- The places after a move (document 02, ticket 5).
-- Assumes nothing.
use Rattle.std.specs.Prelude.{ℕ, suc, ◌+◌, ◌≤◌, ◌<◌, ◌≡◌, ◌≢◌, Bool, List, [], ◌∷◌, map, set, take}
use Rattle.std.proofs.Math.Path.{refl, sym, ap}
use Rattle.std.proofs.Common.{◌∙◌, arith, get_or-set_other}
use Rattle.std.proofs.Math.Bool.{true, false, cond}
use Rattle.std.proofs.Math.ListN.{length, get_or, length-set, length-map}
use Rattle.std.proofs.Math.Seq.{set-get_or, map-set_same}
use Rattle.std.proofs.Math.Dec.{eqb}
use borrow.Author.Tests.{eqb-true, eqb-false, eq-eqb, ne_eqb}
use Rattle.laws.specs.Map.{map_from, map_to}
use Rattle.laws.specs.Indices.{map_to_rest}
use Rattle.numbers.specs.Limits.{max_films, name_step, max_streams}
use Rattle.rules.specs.Order.{dropped}
use Rattle.turns.specs.Places.{drop_same, drop_less}
use Rattle.desk.specs.declared.Desk.{Desk}
use Rattle.desk.specs.Asked.{asked_count}
use Rattle.admission.specs.declared.Move.{Move}

-- the place of its slot: behind all that ask, or none
unfoldable pub place_after : Desk → Move → ℕ
place_after d m = cond m.joins (asked_count (take d.plan.streams d.kinds) + 1) 0

-- the places q where slot i gets place x: if it had one, later ones drop by one
unfoldable pub places_with : List ℕ → ℕ → ℕ → List ℕ
places_with q i x = cond (eqb (get_or q i 0) 0) (set q i x) (map (dropped (get_or q i 0)) (set q i x))

abbrev pub places_after : Desk → Move → List ℕ
places_after d m = places_with d.places m.slot (place_after d m)

-- the slots from n on have no place
abbrev pub Placeless : ℕ → List ℕ → Type 0
Placeless n q = (j : ℕ) → n ≤ j → get_or q j 0 ≡ 0

-- a join's film and block have a name of 32 bits
abbrev pub Nameable : Move → Type 0
Nameable m = m.joins ≡ true → (m.film < max_films) × (m.block < name_step)

-- what the places and the name after a move are made of
pub record Movable (d : Desk) (m : Move) : Type 0 where
  pub named : Nameable m
  pub few : d.plan.streams ≤ max_streams
  pub inside : m.slot < d.plan.streams
  pub rest : Placeless d.plan.streams d.places

module _ (q : List ℕ) (i : ℕ) where
  -- a slot without a place
  pub with_unplaced : (x : ℕ) → get_or q i 0 ≡ 0 → places_with q i x ≡ set q i x
  unfolding places_with
  with_unplaced x e = rw (eq-eqb (get_or q i 0) 0 e)

  -- one that has a place
  pub with_placed : (x : ℕ) → get_or q i 0 ≢ 0 → places_with q i x ≡ map (dropped (get_or q i 0)) (set q i x)
  unfolding places_with
  with_placed x n = rw (ne_eqb (get_or q i 0) 0 n)

  -- one that leaves
  pub with_left : places_with q i 0 ≡ cond (eqb (get_or q i 0) 0) q (map (dropped (get_or q i 0)) q)
  unfolding places_with
  with_left = go (eqb (get_or q i 0) 0) refl
    where
      go : (t : Bool) → eqb (get_or q i 0) 0 ≡ t
          → cond t (set q i 0) (map (dropped (get_or q i 0)) (set q i 0)) ≡ cond t q (map (dropped (get_or q i 0)) q)
      go true e = ap (set q i) (sym (eqb-true (get_or q i 0) 0 e)) ∙ set-get_or q i 0
      go false e =
          let m = get_or q i 0 in
          let some : 0 < m = omega (arith, eqb-false m 0 e) in
          map-set_same (dropped m) q i 0 0 (drop_less m 0 some ∙ sym (drop_same m m refl))

  pub with_length : (x : ℕ) → length (places_with q i x) ≡ length q
  unfolding places_with
  with_length x = go (eqb (get_or q i 0) 0)
    where
      go : (t : Bool) → length (cond t (set q i x) (map (dropped (get_or q i 0)) (set q i x))) ≡ length q
      go true = length-set q i x
      go false = length-map (set q i x) (dropped (get_or q i 0)) ∙ length-set q i x

-- the slots from n on have none still, when the slot has its new one
pub still_placeless : (d : Desk) (m : Move) (n : ℕ) (qs : List ℕ) → Movable d m → length d.places ≡ max_streams → n ≡ d.plan.streams
    → qs ≡ set d.places m.slot (place_after d m) → (length qs ≡ max_streams) × Placeless n qs
still_placeless d m n qs h l e q =
    rw (e, q) (length-set d.places m.slot _ ∙ l, λ j u. get_or-set_other d.places m.slot j _ 0 (λ z. omega (arith, h.inside)) ∙ h.rest j u)

-- all places that are lowered by a loop over the first n slots
pub all_lowered : (n m : ℕ) (q : List ℕ) → 0 < m → Placeless n q → map_to (λ _. dropped m) 0 n q ≡ map (dropped m) q
unfolding map_from
all_lowered n m q some h =
    map_to_rest (λ _. dropped m) 0 n q (λ j l u. rw (h j l) (drop_less m 0 some)) ∙ map_is (dropped m) 0 q
  where
    map_is : (f : ℕ → ℕ) (i : ℕ) (xs : List ℕ) → map_from (λ _. f) i xs ≡ map f xs
    map_is f i [] = refl
    map_is f i (x ∷ xs) = ap (λ (ys : List ℕ). f x ∷ ys) (map_is f (suc i) xs)
