-- Which elements a list has, and that none of them is there twice; a list of numbers in a row, and lists put together from lists.
-- Assumes nothing.
use Prim.Native.Nat.{ℕ, zero, suc, ◌+◌, ◌*◌, ◌-◌, ◌/◌, ◌%◌, ◌≤◌, ◌<◌}
use Rattle.std.specs.Prelude.{◌≡◌, ◌⊎◌, Bool, true, length}
use Rattle.std.proofs.Math.Path.{refl, ap}
use Rattle.std.proofs.Common.{sym, ap₂, ◌∙◌, subst, get_or-append-add}
use Rattle.std.proofs.Math.Logic.{inl, inr, by_cases}
use mathlib.Core.List.{List, [], ◌∷◌, ◌++◌, map}
use native.Mathlib.Omega.{arith}
use Rattle.std.proofs.Math.Decide.{dec_lt, ℕ_discrete}
use Rattle.std.proofs.Math.Nat.{div-eq_of_lt, mod-eq_of_lt, add-div_left, add-mod_left}
use Rattle.std.proofs.Math.ListN.{get_or, length-append, get_or-append}
use Rattle.laws.specs.Bools.{and_left, and_right}
use Rattle.laws.specs.Runs.{all_by}

-- a is an element of the list
abbrev pub In : {A : Type 0} → A → List A → Type 0
In a [] = ⊥
In a (x ∷ xs) = (a ≡ x) ⊎ In a xs

-- no element is there twice
abbrev pub Unique : {A : Type 0} → List A → Type 0
Unique [] = Unit {0}
Unique (x ∷ xs) = (In x xs → ⊥) × Unique xs

-- n numbers in a row, from a on
unfoldable pub upto : ℕ → ℕ → List ℕ
upto a zero = []
upto a (suc n) = a ∷ upto (suc a) n

-- the list f of each element, one after the other
unfoldable pub each : {A C : Type 0} → List A → (A → List C) → List C
each [] f = []
each (x ∷ xs) f = f x ++ each xs f

-- ---- elements

module _ {A : Type 0} where
  pub in_left : (a : A) (xs ys : List A) → In a xs → In a (xs ++ ys)
  in_left a [] ys h = absurd h
  in_left a (x ∷ xs) ys (inl e) = inl e
  in_left a (x ∷ xs) ys (inr h) = inr (in_left a xs ys h)

  pub in_right : (a : A) (xs ys : List A) → In a ys → In a (xs ++ ys)
  in_right a [] ys h = h
  in_right a (x ∷ xs) ys h = inr (in_right a xs ys h)

  pub in_cases : (a : A) (xs ys : List A) → In a (xs ++ ys) → In a xs ⊎ In a ys
  in_cases a [] ys h = inr h
  in_cases a (x ∷ xs) ys (inl e) = inl (inl e)
  in_cases a (x ∷ xs) ys (inr h) = go (in_cases a xs ys h)
    where
      go : In a xs ⊎ In a ys → ((a ≡ x) ⊎ In a xs) ⊎ In a ys
      go (inl u) = inl (inr u)
      go (inr u) = inr u

  pub in_at : (xs : List A) (i : ℕ) (d : A) → i < length xs → In (get_or xs i d) xs
  in_at [] i d h = absurd (omega arith)
  in_at (x ∷ xs) zero d h = inl refl
  in_at (x ∷ xs) (suc i) d h = inr (in_at xs i d (omega arith))

  -- an element stands somewhere
  pub place_of : (a : A) (xs : List A) (d : A) → In a xs → (i : ℕ) × (i < length xs) × (a ≡ get_or xs i d)
  place_of a [] d h = absurd h
  place_of a (x ∷ xs) d (inl e) = (0, omega arith, e)
  place_of a (x ∷ xs) d (inr h) = let (i, l, e) = place_of a xs d h in (suc i, omega arith, e)

  -- where none is twice, equal elements stand at one place
  pub unique_at : (xs : List A) (d : A) → Unique xs → (i j : ℕ) → i < length xs → j < length xs → get_or xs i d ≡ get_or xs j d → i ≡ j
  unique_at [] d u i j h k e = absurd (omega arith)
  unique_at (x ∷ xs) d u zero zero h k e = refl
  unique_at (x ∷ xs) d u zero (suc j) h k e = absurd (u.0 (subst (λ (a : A). In a xs) (sym e) (in_at xs j d (omega arith))))
  unique_at (x ∷ xs) d u (suc i) zero h k e = absurd (u.0 (subst (λ (a : A). In a xs) e (in_at xs i d (omega arith))))
  unique_at (x ∷ xs) d u (suc i) (suc j) h k e = ap suc (unique_at xs d u.1 i j (omega arith) (omega arith) e)

  pub unique_both : (xs ys : List A) → Unique xs → Unique ys → ((a : A) → In a xs → In a ys → ⊥) → Unique (xs ++ ys)
  unique_both [] ys u v d = v
  unique_both (x ∷ xs) ys u v d = (λ h. go (in_cases x xs ys h), unique_both xs ys u.1 v (λ a p q. d a (inr p) q))
    where
      go : In x xs ⊎ In x ys → ⊥
      go (inl p) = u.0 p
      go (inr q) = d x (inl refl) q

  -- what all pass each element passes
  pub in_all : (f : A → Bool) (xs : List A) → all_by f xs ≡ true → (a : A) → In a xs → f a ≡ true
  unfolding all_by
  in_all f [] e a h = absurd h
  in_all f (x ∷ xs) e a (inl d) = ap f d ∙ and_left (f x) (all_by f xs) e
  in_all f (x ∷ xs) e a (inr h) = in_all f xs (and_right (f x) (all_by f xs) e) a h

module _ {A C : Type 0} (f : A → C) where
  pub in_map : (a : A) (xs : List A) → In a xs → In (f a) (map f xs)
  in_map a [] h = absurd h
  in_map a (x ∷ xs) (inl e) = inl (ap f e)
  in_map a (x ∷ xs) (inr h) = inr (in_map a xs h)

  pub of_map : (c : C) (xs : List A) → In c (map f xs) → (a : A) × In a xs × (c ≡ f a)
  of_map c [] h = absurd h
  of_map c (x ∷ xs) (inl e) = (x, inl refl, e)
  of_map c (x ∷ xs) (inr h) = let (a, u, e) = of_map c xs h in (a, inr u, e)

  pub unique_map : (xs : List A) → ((a b : A) → In a xs → In b xs → f a ≡ f b → a ≡ b) → Unique xs → Unique (map f xs)
  unique_map [] inj u = tt
  unique_map (x ∷ xs) inj u = (λ h. go (of_map (f x) xs h), unique_map xs (λ a b p q. inj a b (inr p) (inr q)) u.1)
    where
      go : (a : A) × In a xs × (f x ≡ f a) → ⊥
      go (a, v, e) = u.0 (subst (λ (t : A). In t xs) (sym (inj x a (inl refl) (inr v) e)) v)

  pub map_at : (xs : List A) (i : ℕ) (d : A) (e : C) → i < length xs → get_or (map f xs) i e ≡ f (get_or xs i d)
  map_at [] i d e h = absurd (omega arith)
  map_at (x ∷ xs) zero d e h = refl
  map_at (x ∷ xs) (suc i) d e h = map_at xs i d e (omega arith)

-- ---- numbers in a row

pub upto_length : (a n : ℕ) → length (upto a n) ≡ n
unfolding upto
upto_length a zero = refl
upto_length a (suc n) = ap suc (upto_length (suc a) n)

pub upto_at : (a n i d : ℕ) → i < n → get_or (upto a n) i d ≡ a + i
unfolding upto
upto_at a zero i d h = absurd (omega arith)
upto_at a (suc n) zero d h = omega arith
upto_at a (suc n) (suc i) d h = omega (arith, upto_at (suc a) n i d (omega arith))

-- one number more
pub upto_more : (a n : ℕ) → upto a (suc n) ≡ upto a n ++ ((a + n) ∷ [])
unfolding upto
upto_more a zero = let e : a + 0 ≡ a = omega arith in rw e
upto_more a (suc n) = let e : suc a + n ≡ a + suc n = omega arith in rw (← e) (ap (λ ns. a ∷ ns) (upto_more (suc a) n))

pub in_upto : (a n x : ℕ) → a ≤ x → x < a + n → In x (upto a n)
unfolding upto
in_upto a zero x h k = absurd (omega arith)
in_upto a (suc n) x h k = by_cases (ℕ_discrete x a) (λ e. inl e) (λ e. inr (in_upto (suc a) n x (omega arith) (omega arith)))

pub of_upto : (a n x : ℕ) → In x (upto a n) → (a ≤ x) × (x < a + n)
unfolding upto
of_upto a zero x h = absurd h
of_upto a (suc n) x (inl e) = omega arith
of_upto a (suc n) x (inr h) = omega (arith, of_upto (suc a) n x h)

pub unique_upto : (a n : ℕ) → Unique (upto a n)
unfolding upto
unique_upto a zero = tt
unique_upto a (suc n) = (λ u. omega (arith, of_upto (suc a) n a u), unique_upto (suc a) n)

-- ---- lists put together

module _ {A C : Type 0} (f : A → List C) where
  pub in_each : (a : A) (c : C) (xs : List A) → In a xs → In c (f a) → In c (each xs f)
  unfolding each
  in_each a c [] h k = absurd h
  in_each a c (x ∷ xs) (inl e) k = in_left c (f x) (each xs f) (subst (λ (t : A). In c (f t)) e k)
  in_each a c (x ∷ xs) (inr h) k = in_right c (f x) (each xs f) (in_each a c xs h k)

  pub of_each : (c : C) (xs : List A) → In c (each xs f) → (a : A) × In a xs × In c (f a)
  unfolding each
  of_each c [] h = absurd h
  of_each c (x ∷ xs) h = go (in_cases c (f x) (each xs f) h) (λ u. of_each c xs u)
    where
      go : In c (f x) ⊎ In c (each xs f) → (In c (each xs f) → (a : A) × In a xs × In c (f a)) → (a : A) × In a (x ∷ xs) × In c (f a)
      go (inl u) ih = (x, inl refl, u)
      go (inr u) ih = let (a, v, w) = ih u in (a, inr v, w)

  -- where an element tells which list it comes from
  pub unique_each : (xs : List A) → ((a b : A) (c : C) → In a xs → In b xs → In c (f a) → In c (f b) → a ≡ b) → Unique xs
      → ((a : A) → In a xs → Unique (f a)) → Unique (each xs f)
  unfolding each
  unique_each [] k u v = tt
  unique_each (x ∷ xs) k u v =
      unique_both (f x) (each xs f) (v x (inl refl)) (unique_each xs (λ a b c p q. k a b c (inr p) (inr q)) u.1 (λ a w. v a (inr w)))
      (λ c w y. go c w (of_each c xs y))
    where
      go : (c : C) → In c (f x) → (a : A) × In a xs × In c (f a) → ⊥
      go c w (a, y, z) = u.0 (subst (λ (t : A). In t xs) (sym (k x a c (inl refl) (inr y) w z)) y)

-- ---- lists of one length s each

module _ {C : Type 0} (f : ℕ → List C) (s : ℕ) (long : (i : ℕ) → length (f i) ≡ s) where
  pub each_length : (a n : ℕ) → length (each (upto a n) f) ≡ n * s
  unfolding each upto
  each_length a zero = omega arith
  each_length a (suc n) = omega (arith, length-append (f a) (each (upto (suc a) n) f), long a, each_length (suc a) n)

  -- the r-th element is the r % s-th of the r / s-th list
  pub each_at : (a n r : ℕ) (d : C) → 0 < s → r < n * s → get_or (each (upto a n) f) r d ≡ get_or (f (a + r / s)) (r % s) d
  unfolding each upto
  each_at a zero r d p h = absurd (omega arith)
  each_at a (suc n) r d p h = by_cases (dec_lt r s) first (λ u. later u (each_at (suc a) n (r - s) d p (omega arith)))
    where
      first : r < s → get_or (f a ++ each (upto (suc a) n) f) r d ≡ get_or (f (a + r / s)) (r % s) d
      first u =
          let q : a + r / s ≡ a = omega (arith, div-eq_of_lt u) in
          rw (q, mod-eq_of_lt u) (get_or-append (f a) (each (upto (suc a) n) f) d r (omega (arith, long a)))

      later : (r < s → ⊥) → get_or (each (upto (suc a) n) f) (r - s) d ≡ get_or (f (suc a + (r - s) / s)) ((r - s) % s) d
          → get_or (f a ++ each (upto (suc a) n) f) r d ≡ get_or (f (a + r / s)) (r % s) d
      later u ih =
          let m : r ≡ length (f a) + (r - s) = omega (arith, long a) in
          let t : s + (r - s) ≡ r = omega arith in
          let q : suc a + (r - s) / s ≡ a + r / s = omega (arith, add-div_left (r - s) p, ap (λ (k : ℕ). k / s) t) in
          let v : (r - s) % s ≡ r % s = sym (add-mod_left s (r - s)) ∙ ap (λ (k : ℕ). k % s) t in
          ap (λ (k : ℕ). get_or (f a ++ each (upto (suc a) n) f) k d) m
          ∙ get_or-append-add (f a) (each (upto (suc a) n) f) (r - s) d
          ∙ ih
          ∙ ap₂ (λ (i k : ℕ). get_or (f i) k d) q v
