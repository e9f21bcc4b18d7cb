-- A fact for each element of a list, for each element with its index, and for two lists side by side.
-- Assumes nothing.
use Rattle.std.specs.Prelude.{ℕ, zero, suc, ◌+◌, ◌<◌, ◌≡◌, refl, Bool, true, List, [], ◌∷◌, ◌++◌, length, get_or, set, replicate}
use Rattle.std.proofs.Common.{ap, arith}
use Rattle.laws.specs.Bools.{and_left, and_right, and_both}
use Rattle.laws.specs.Runs.{all_by}

abbrev pub Each : {A : Type 0} → (A → Type 0) → List A → Type 0
Each Q [] = Unit {0}
Each Q (x ∷ xs) = Q x × Each Q xs

-- the indices are counted from i
abbrev pub EachFrom : {A : Type 0} → (ℕ → A → Type 0) → ℕ → List A → Type 0
EachFrom Q i [] = Unit {0}
EachFrom Q i (x ∷ xs) = Q i x × EachFrom Q (suc i) xs

-- the lists are as long as each other
abbrev pub Both : {A C : Type 0} → (A → C → Type 0) → List A → List C → Type 0
Both R [] [] = Unit {0}
Both R [] (y ∷ ys) = ⊥
Both R (x ∷ xs) [] = ⊥
Both R (x ∷ xs) (y ∷ ys) = R x y × Both R xs ys

module _ {A : Type 0} (Q : A → Type 0) where
  pub each_set : (xs : List A) (i : ℕ) (a : A) → Each Q xs → Q a → Each Q (set xs i a)
  each_set [] i a h q = tt
  each_set (x ∷ xs) zero a h q = (q, h.1)
  each_set (x ∷ xs) (suc i) a h q = (h.0, each_set xs i a h.1 q)

  pub each_at : (xs : List A) (i : ℕ) (d : A) → Each Q xs → Q d → Q (get_or xs i d)
  each_at [] i d h q = q
  each_at (x ∷ xs) zero d h q = h.0
  each_at (x ∷ xs) (suc i) d h q = each_at xs i d h.1 q

  pub each_append : (xs ys : List A) → Each Q xs → Each Q ys → Each Q (xs ++ ys)
  each_append [] ys h k = k
  each_append (x ∷ xs) ys h k = (h.0, each_append xs ys h.1 k)

  -- from the fact at each index
  pub each_by : (xs : List A) (d : A) → ((i : ℕ) → i < length xs → Q (get_or xs i d)) → Each Q xs
  each_by [] d h = tt
  each_by (x ∷ xs) d h = (h 0 (omega arith), each_by xs d (λ i l. h (suc i) (omega arith)))

  pub each_replicate : (m : ℕ) (a : A) → Q a → Each Q (replicate m a)
  each_replicate zero a q = tt
  each_replicate (suc m) a q = (q, each_replicate m a q)

-- a list of zeros has no other number
pub zero_at : (n i : ℕ) → ◌≡◌ {A = ℕ} (get_or (replicate n 0) i 0) 0
zero_at n i = each_at (λ (v : ℕ). v ≡ 0) (replicate n 0) i 0 (each_replicate (λ (v : ℕ). v ≡ 0) n 0 refl) refl

pub each_map : {A : Type 0} (Q R : A → Type 0) (xs : List A) → ((x : A) → Q x → R x) → Each Q xs → Each R xs
each_map Q R [] f h = tt
each_map Q R (x ∷ xs) f h = (f x h.0, each_map Q R xs f h.1)

-- a test of all elements, and the fact for each
pub each_of_all : {A : Type 0} (f : A → Bool) (xs : List A) → all_by f xs ≡ true → Each (λ x. f x ≡ true) xs
unfolding all_by
each_of_all f [] e = tt
each_of_all f (x ∷ xs) e = (and_left (f x) _ e, each_of_all f xs (and_right (f x) _ e))

pub all_of_each : {A : Type 0} (f : A → Bool) (xs : List A) → Each (λ x. f x ≡ true) xs → all_by f xs ≡ true
unfolding all_by
all_of_each f [] h = refl
all_of_each f (x ∷ xs) h = and_both h.0 (all_of_each f xs h.1)

module _ {A C : Type 0} (R : A → C → Type 0) where
  pub both_set : (xs : List A) (ys : List C) (i : ℕ) (a : A) (b : C) → Both R xs ys → R a b → Both R (set xs i a) (set ys i b)
  both_set [] [] i a b h r = tt
  both_set [] (y ∷ ys) i a b h r = absurd h
  both_set (x ∷ xs) [] i a b h r = absurd h
  both_set (x ∷ xs) (y ∷ ys) zero a b h r = (r, h.1)
  both_set (x ∷ xs) (y ∷ ys) (suc i) a b h r = (h.0, both_set xs ys i a b h.1 r)

  pub both_at : (xs : List A) (ys : List C) (i : ℕ) (a : A) (b : C) → Both R xs ys → R a b → R (get_or xs i a) (get_or ys i b)
  both_at [] [] i a b h r = r
  both_at [] (y ∷ ys) i a b h r = absurd h
  both_at (x ∷ xs) [] i a b h r = absurd h
  both_at (x ∷ xs) (y ∷ ys) zero a b h r = h.0
  both_at (x ∷ xs) (y ∷ ys) (suc i) a b h r = both_at xs ys i a b h.1 r

  pub both_replicate : (m : ℕ) (a : A) (b : C) → R a b → Both R (replicate m a) (replicate m b)
  both_replicate zero a b r = tt
  both_replicate (suc m) a b r = (r, both_replicate m a b r)

module _ {A : Type 0} (R : A → A → Type 0) where
  pub both_refl : (xs : List A) → ((x : A) → R x x) → Both R xs xs
  both_refl [] r = tt
  both_refl (x ∷ xs) r = (r x, both_refl xs r)

  pub both_trans : (xs ys zs : List A) → ((x y z : A) → R x y → R y z → R x z) → Both R xs ys → Both R ys zs → Both R xs zs
  both_trans [] [] [] t h k = tt
  both_trans [] [] (z ∷ zs) t h k = k
  both_trans [] (y ∷ ys) zs t h k = absurd h
  both_trans (x ∷ xs) [] zs t h k = absurd h
  both_trans (x ∷ xs) (y ∷ ys) [] t h k = k
  both_trans (x ∷ xs) (y ∷ ys) (z ∷ zs) t h k = (t x y z h.0 k.0, both_trans xs ys zs t h.1 k.1)

pub both_length : {A C : Type 0} (R : A → C → Type 0) (xs : List A) (ys : List C) → Both R xs ys → length ys ≡ length xs
both_length R [] [] h = refl
both_length R [] (y ∷ ys) h = absurd h
both_length R (x ∷ xs) [] h = absurd h
both_length R (x ∷ xs) (y ∷ ys) h = ap suc (both_length R xs ys h.1)
