-- The order of cards: the earlier of two is the lower one, so none stands twice.
-- Assumes nothing.
use Rattle.std.specs.Prelude.{ℕ, zero, suc, ◌<◌, ◌≡◌, refl, ◌⊎◌, Bool, true, false, ◌&&◌, ◌||◌, List, [], ◌∷◌, length, get_or, ltb, eqb}
use Rattle.std.proofs.Common.{sym, ◌∙◌, subst, inl, inr, arith, ltb-true, eqb-true}
use Rattle.laws.specs.Bools.{clash, and_left, and_right, or_cases}
use Rattle.laws.specs.Members.{In, Unique, in_at}
use Rattle.card.specs.declared.Figures.{Figures}
use Rattle.small_cards.specs.Cards.{Before, order_of, Earlier}

before_irreflexive : (xs : List ℕ) → Before xs xs → ⊥
before_irreflexive [] h = h
before_irreflexive (x ∷ xs) (inl h) = omega arith
before_irreflexive (x ∷ xs) (inr h) = before_irreflexive xs h.1

before_trans : (xs ys zs : List ℕ) → Before xs ys → Before ys zs → Before xs zs
before_trans [] ys zs h k = absurd h
before_trans (x ∷ xs) [] zs h k = absurd h
before_trans (x ∷ xs) (y ∷ ys) [] h k = absurd k
before_trans (x ∷ xs) (y ∷ ys) (z ∷ zs) (inl h) (inl k) = inl (omega arith)
before_trans (x ∷ xs) (y ∷ ys) (z ∷ zs) (inl h) (inr k) = inl (omega (arith, k.0))
before_trans (x ∷ xs) (y ∷ ys) (z ∷ zs) (inr h) (inl k) = inl (omega (arith, h.0))
before_trans (x ∷ xs) (y ∷ ys) (z ∷ zs) (inr h) (inr k) = inr (h.0 ∙ k.0, before_trans xs ys zs h.1 k.1)

-- ---- as a test

unfoldable pub before : List ℕ → List ℕ → Bool
before [] ys = false
before (x ∷ xs) [] = false
before (x ∷ xs) (y ∷ ys) = ltb x y || (eqb x y && before xs ys)

before_says : (xs ys : List ℕ) → before xs ys ≡ true → Before xs ys
unfolding before
before_says [] ys e = clash e refl
before_says (x ∷ xs) [] e = clash e refl
before_says (x ∷ xs) (y ∷ ys) e = go (or_cases (ltb x y) (eqb x y && before xs ys) e) (λ d. before_says xs ys d)
  where
    go : (ltb x y ≡ true) ⊎ ((eqb x y && before xs ys) ≡ true) → (before xs ys ≡ true → Before xs ys) → (x < y) ⊎ ((x ≡ y) × Before xs ys)
    go (inl d) ih = inl (ltb-true x y d)
    go (inr d) ih = inr (eqb-true x y (and_left (eqb x y) (before xs ys) d), ih (and_right (eqb x y) (before xs ys) d))

-- each is before the next one, and f before the first
unfoldable pub in_order : Figures → List Figures → Bool
in_order f [] = true
in_order f (g ∷ gs) = before (order_of f) (order_of g) && in_order g gs

-- so it is before them all
before_all : (f : Figures) (gs : List Figures) → in_order f gs ≡ true → (h : Figures) → In h gs → Earlier f h
unfolding in_order
before_all f [] e h u = absurd u
before_all f (g ∷ gs) e h (inl d) =
    subst (λ (t : Figures). Earlier f t) (sym d) (before_says (order_of f) (order_of g) (and_left (before (order_of f) (order_of g)) (in_order g gs) e))
before_all f (g ∷ gs) e h (inr u) =
    before_trans (order_of f) (order_of g) (order_of h) (before_says (order_of f) (order_of g) (and_left (before (order_of f) (order_of g)) (in_order g gs) e))
    (before_all g gs (and_right (before (order_of f) (order_of g)) (in_order g gs) e) h u)

pub order_unique : (f : Figures) (gs : List Figures) → in_order f gs ≡ true → Unique gs
unfolding in_order
order_unique f [] e = tt
order_unique f (g ∷ gs) e =
    let d = and_right (before (order_of f) (order_of g)) (in_order g gs) e in
    (λ u. before_irreflexive (order_of g) (before_all g gs d g u), order_unique g gs d)

pub order_at : (f d : Figures) (gs : List Figures) → in_order f gs ≡ true → (i j : ℕ) → i < j → j < length gs → Earlier (get_or gs i d) (get_or gs j d)
unfolding in_order
order_at f d [] e i j h l = absurd (omega arith)
order_at f d (g ∷ gs) e i zero h l = absurd (omega arith)
order_at f d (g ∷ gs) e zero (suc j) h l =
    before_all g gs (and_right (before (order_of f) (order_of g)) (in_order g gs) e) (get_or gs j d) (in_at gs j d (omega arith))
order_at f d (g ∷ gs) e (suc i) (suc j) h l = order_at g d gs (and_right (before (order_of f) (order_of g)) (in_order g gs) e) i j (omega arith) (omega arith)
