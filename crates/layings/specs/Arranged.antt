-- The list of all layings has each laying on the film's positions once, and nothing else.
-- Assumes nothing.
use Rattle.std.specs.Prelude.{ℕ, zero, suc, ◌-◌, ◌≤◌, ◌<◌, ◌≡◌, refl, ◌⊎◌, List, [], ◌∷◌, map, length, get_or, set}
use Rattle.std.proofs.Common.{sym, ap, ◌∙◌, subst, inl, inr, arith}
use Rattle.laws.specs.Members.{In, Unique, upto, each, in_at, place_of, unique_at, in_map, of_map}
use Rattle.laws.specs.Members.{unique_map, upto_length, in_upto, of_upto, unique_upto, in_each, of_each, unique_each}
use Rattle.layings.specs.Layings.{others, arrangements, film_positions, layings}
use Rattle.layings.specs.Numbered.{others_length}

-- ---- an entry overwritten

set_has : (xs : List ℕ) (i x : ℕ) → i < length xs → In x (set xs i x)
set_has [] i x h = absurd (omega arith)
set_has (y ∷ ys) zero x h = inl refl
set_has (y ∷ ys) (suc i) x h = inr (set_has ys i x (omega arith))

-- all stay but the one at i
in_set : (xs : List ℕ) (i x a : ℕ) → In a xs → (a ≡ get_or xs i 0) ⊎ In a (set xs i x)
in_set [] i x a h = absurd h
in_set (y ∷ ys) zero x a (inl e) = inl e
in_set (y ∷ ys) zero x a (inr h) = inr (inr h)
in_set (y ∷ ys) (suc i) x a (inl e) = inr (inl e)
in_set (y ∷ ys) (suc i) x a (inr h) = go (in_set ys i x a h)
  where
    go : (a ≡ get_or ys i 0) ⊎ In a (set ys i x) → (a ≡ get_or ys i 0) ⊎ In a (y ∷ set ys i x)
    go (inl e) = inl e
    go (inr u) = inr (inr u)

-- and that one is gone
of_set : (xs : List ℕ) (i x a : ℕ) → i < length xs → Unique xs → In a (set xs i x) → (a ≡ x) ⊎ (In a xs × (a ≡ get_or xs i 0 → ⊥))
of_set [] i x a l u h = absurd h
of_set (y ∷ ys) zero x a l u (inl e) = inl e
of_set (y ∷ ys) zero x a l u (inr h) = inr (inr h, λ e. u.0 (subst (λ (t : ℕ). In t ys) e h))
of_set (y ∷ ys) (suc i) x a l u (inl e) = inr (inl e, λ d. u.0 (subst (λ (t : ℕ). In t ys) (sym d ∙ e) (in_at ys i 0 (omega arith))))
of_set (y ∷ ys) (suc i) x a l u (inr h) = go (of_set ys i x a (omega arith) u.1 h)
  where
    go : (a ≡ x) ⊎ (In a ys × (a ≡ get_or ys i 0 → ⊥)) → (a ≡ x) ⊎ (In a (y ∷ ys) × (a ≡ get_or ys i 0 → ⊥))
    go (inl e) = inl e
    go (inr v) = inr (inr v.0, v.1)

unique_set : (xs : List ℕ) (i x : ℕ) → i < length xs → Unique xs → (In x xs → ⊥) → Unique (set xs i x)
unique_set [] i x l u n = tt
unique_set (y ∷ ys) zero x l u n = (λ h. n (inr h), u.1)
unique_set (y ∷ ys) (suc i) x l u n = (λ h. go (of_set ys i x y (omega arith) u.1 h), unique_set ys i x (omega arith) u.1 (λ h. n (inr h)))
  where
    go : (y ≡ x) ⊎ (In y ys × (y ≡ get_or ys i 0 → ⊥)) → ⊥
    go (inl e) = n (inl (sym e))
    go (inr v) = u.0 v.0

-- ---- the others of a list

in_others : (i : ℕ) (xs : List ℕ) (a : ℕ) → i < length xs → In a xs → (a ≡ get_or xs i 0) ⊎ In a (others i xs)
unfolding others
in_others i [] a l h = absurd h
in_others zero (x ∷ xs) a l h = h
in_others (suc i) (x ∷ xs) a l (inl e) = inr (subst (λ (t : ℕ). In t (set xs i x)) (sym e) (set_has xs i x (omega arith)))
in_others (suc i) (x ∷ xs) a l (inr h) = in_set xs i x a h

of_others : (i : ℕ) (xs : List ℕ) (a : ℕ) → i < length xs → Unique xs → In a (others i xs) → In a xs × (a ≡ get_or xs i 0 → ⊥)
unfolding others
of_others i [] a l u h = absurd h
of_others zero (x ∷ xs) a l u h = (inr h, λ e. u.0 (subst (λ (t : ℕ). In t xs) e h))
of_others (suc i) (x ∷ xs) a l u h = go (of_set xs i x a (omega arith) u.1 h)
  where
    go : (a ≡ x) ⊎ (In a xs × (a ≡ get_or xs i 0 → ⊥)) → In a (x ∷ xs) × (a ≡ get_or xs i 0 → ⊥)
    go (inl e) = (inl e, λ d. u.0 (subst (λ (t : ℕ). In t xs) (sym d ∙ e) (in_at xs i 0 (omega arith))))
    go (inr v) = (inr v.0, v.1)

unique_others : (i : ℕ) (xs : List ℕ) → i < length xs → Unique xs → Unique (others i xs)
unfolding others
unique_others i [] l u = tt
unique_others zero (x ∷ xs) l u = u.1
unique_others (suc i) (x ∷ xs) l u = unique_set xs i x (omega arith) u.1 u.0

-- ---- the orders of n different numbers

-- ys is an order of some of xs
pub record Order (n : ℕ) (xs ys : List ℕ) : Type 0 where
  pub size : length ys ≡ n
  pub apart : Unique ys
  pub from : (a : ℕ) → In a ys → In a xs

-- those that begin with the i-th of xs
abbrev begun : ℕ → List ℕ → ℕ → List (List ℕ)
begun n xs i = map (λ ys. get_or xs i 0 ∷ ys) (arrangements n (others i xs))

-- NONE IS MISSING
pub arranged : (n : ℕ) (xs ys : List ℕ) → length xs ≡ n → Order n xs ys → In ys (arrangements n xs)
unfolding arrangements
arranged zero xs [] l o = inl refl
arranged zero xs (y ∷ ys) l o = absurd (omega (arith, o.size))
arranged (suc n) xs [] l o = absurd (omega (arith, o.size))
arranged (suc n) xs (y ∷ ys) l o = go (place_of y xs 0 (o.from y (inl refl))) (λ zs k p. arranged n zs ys k p)
  where
    go : (i : ℕ) × (i < length xs) × (y ≡ get_or xs i 0) → ((zs : List ℕ) → length zs ≡ n → Order n zs ys → In ys (arrangements n zs))
        → In (y ∷ ys) (each (upto 0 (suc n)) (begun n xs))
    go (i, li, e) ih =
        in_each (begun n xs) i (y ∷ ys) (upto 0 (suc n)) (in_upto 0 (suc n) i (omega arith) (omega arith))
        (subst (λ (t : ℕ). In (t ∷ ys) (begun n xs i)) (sym e)
        (in_map (λ zs. get_or xs i 0 ∷ zs) ys (arrangements n (others i xs))
        (ih (others i xs) (omega (arith, others_length i xs))
        (record { size = omega (arith, o.size); apart = o.apart.1; from = λ a h. left a h (in_others i xs a li (o.from a (inr h))) }))))
      where
        left : (a : ℕ) → In a ys → (a ≡ get_or xs i 0) ⊎ In a (others i xs) → In a (others i xs)
        left a h (inl d) = absurd (o.apart.0 (subst (λ (t : ℕ). In t ys) (d ∙ sym e) h))
        left a h (inr v) = v

-- EACH IS ONE
pub ordered : (n : ℕ) (xs ys : List ℕ) → length xs ≡ n → Unique xs → In ys (arrangements n xs) → Order n xs ys
unfolding arrangements
ordered zero xs ys l u (inl e) = rw e (record { size = refl; apart = tt; from = λ a h. absurd h })
ordered zero xs ys l u (inr h) = absurd h
ordered (suc n) xs ys l u h = go (of_each (begun n xs) ys (upto 0 (suc n)) h) (λ vs zs k w p. ordered n vs zs k w p)
  where
    go : (i : ℕ) × In i (upto 0 (suc n)) × In ys (begun n xs i)
        → ((vs zs : List ℕ) → length vs ≡ n → Unique vs → In zs (arrangements n vs) → Order n vs zs) → Order (suc n) xs ys
    go (i, v, w) ih = step (of_map (λ zs. get_or xs i 0 ∷ zs) ys (arrangements n (others i xs)) w)
      where
        li : i < length xs
        li = omega (arith, of_upto 0 (suc n) i v)

        step : (zs : List ℕ) × In zs (arrangements n (others i xs)) × (ys ≡ get_or xs i 0 ∷ zs) → Order (suc n) xs ys
        step (zs, k, e) =
            let o = ih (others i xs) zs (omega (arith, others_length i xs)) (unique_others i xs li u) k in
            rw e (record {
              size = ap suc o.size;
              apart = (λ p. (of_others i xs (get_or xs i 0) li u (o.from (get_or xs i 0) p)).1 refl, o.apart);
              from = λ a p. back o a p;
            })
          where
            back : Order n (others i xs) zs → (a : ℕ) → In a (get_or xs i 0 ∷ zs) → In a xs
            back o a (inl d) = subst (λ (t : ℕ). In t xs) (sym d) (in_at xs i 0 li)
            back o a (inr p) = (of_others i xs a li u (o.from a p)).0

-- EACH APPEARS ONCE
pub once : (n : ℕ) (xs : List ℕ) → length xs ≡ n → Unique xs → Unique (arrangements n xs)
unfolding arrangements
once zero xs l u = (λ h. h, tt)
once (suc n) xs l u =
    unique_each (begun n xs) (upto 0 (suc n)) first (unique_upto 0 (suc n))
    (λ i v. unique_map (λ ys. get_or xs i 0 ∷ ys) (arrangements n (others i xs)) (λ a b p q e. cc)
    (once n (others i xs) (omega (arith, others_length i xs)) (unique_others i xs (omega (arith, of_upto 0 (suc n) i v)) u)))
  where
    -- the first of an order tells where it was taken from
    first : (i j : ℕ) (ys : List ℕ) → In i (upto 0 (suc n)) → In j (upto 0 (suc n)) → In ys (begun n xs i) → In ys (begun n xs j) → i ≡ j
    first i j ys v w p q =
        let (zs, a, d) = of_map (λ zs. get_or xs i 0 ∷ zs) ys (arrangements n (others i xs)) p in
        let (us, b, e) = of_map (λ zs. get_or xs j 0 ∷ zs) ys (arrangements n (others j xs)) q in
        unique_at xs 0 u i j (omega (arith, of_upto 0 (suc n) i v)) (omega (arith, of_upto 0 (suc n) j w)) (cc)

-- ---- the layings of a film

pub positions_length : (P N : ℕ) → length (film_positions P N) ≡ N
unfolding film_positions
positions_length P N = upto_length _ N

pub positions_unique : (P N : ℕ) → Unique (film_positions P N)
unfolding film_positions
positions_unique P N = unique_upto _ N

pub in_film : (P N p : ℕ) → N ≤ P → P - N ≤ p → p < P → In p (film_positions P N)
unfolding film_positions
in_film P N p np h u = in_upto _ N p (omega arith) (omega arith)

pub of_film : (P N p : ℕ) → N ≤ P → In p (film_positions P N) → (P - N ≤ p) × (p < P)
unfolding film_positions
of_film P N p np h = let b = of_upto _ N p h in omega arith
