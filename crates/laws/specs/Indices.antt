-- A test of each element with its index, and the lowest index that fails; a list changed element by element (Map), seen at one index.
-- Assumes nothing.
use Prim.Native.Nat.{ℕ, zero, suc, ◌+◌, ◌≤◌, ◌<◌}
use Rattle.std.specs.Prelude.{◌≡◌, Bool, cond, ◌&&◌, length}
use Rattle.std.proofs.Math.Path.{refl, ap, subst}
use Rattle.std.proofs.Common.{sym, ◌∙◌}
use Rattle.std.proofs.Math.Bool.{true, false}
use mathlib.Core.List.{List, [], ◌∷◌, map}
use native.Mathlib.Omega.{arith}
use Rattle.std.proofs.Math.ListN.{get_or}
use Rattle.laws.specs.Bools.{clash, and_left, and_right, and_both}
use Rattle.laws.specs.Map.{map_from, map_to, map_to_none}
use Rattle.laws.specs.Each.{EachFrom}

module _ {A : Type 0} (f : ℕ → A → Bool) where
  -- each element passes with its index, counted from i
  unfoldable pub all_from : ℕ → List A → Bool
  all_from i [] = true
  all_from i (x ∷ xs) = f i x && all_from (suc i) xs

  -- the lowest index that fails; one past the last where none does
  unfoldable pub lowest_from : ℕ → List A → ℕ
  lowest_from i [] = i
  lowest_from i (x ∷ xs) = cond (f i x) (lowest_from (suc i) xs) i

  pub each_of_all_from : (i : ℕ) (xs : List A) → all_from i xs ≡ true → EachFrom (λ j x. f j x ≡ true) i xs
  unfolding all_from
  each_of_all_from i [] e = tt
  each_of_all_from i (x ∷ xs) e = (and_left (f i x) _ e, each_of_all_from (suc i) xs (and_right (f i x) _ e))

  all_from_by : (d : A) (i : ℕ) (xs : List A) → ((j : ℕ) → j < length xs → f (i + j) (get_or xs j d) ≡ true) → all_from i xs ≡ true
  unfolding all_from
  all_from_by d i [] h = refl
  all_from_by d i (x ∷ xs) h =
      and_both (subst (λ (k : ℕ). f k x ≡ true) (omega arith) (h 0 (omega arith)))
      (all_from_by d (suc i) xs (λ j l. subst (λ (k : ℕ). f k (get_or xs j d) ≡ true) (omega arith) (h (suc j) (omega arith))))

  -- a loop that goes up and meets no failure
  pub all_passed : (d : A) (xs : List A) → ((j : ℕ) → j < length xs → f j (get_or xs j d) ≡ true) → all_from 0 xs ≡ true
  all_passed d xs h = all_from_by d 0 xs (λ j l. subst (λ (k : ℕ). f k (get_or xs j d) ≡ true) (omega arith) (h j l))

  failed_by : (d : A) (i : ℕ) (xs : List A) (j : ℕ) → j < length xs → ((k : ℕ) → k < j → f (i + k) (get_or xs k d) ≡ true)
      → f (i + j) (get_or xs j d) ≡ false → (all_from i xs ≡ false) × (lowest_from i xs ≡ i + j)
  unfolding all_from lowest_from
  failed_by d i [] j l h e = absurd (omega arith)
  failed_by d i (x ∷ xs) zero l h e =
      let q : f i x ≡ false = subst (λ (k : ℕ). f k x ≡ false) (omega arith) e in (rw q, rw q (omega arith))
  failed_by d i (x ∷ xs) (suc j) l h e =
      later (failed_by d (suc i) xs j (omega arith) (λ k u. subst (λ (m : ℕ). f m (get_or xs k d) ≡ true) (omega arith) (h (suc k) (omega arith)))
      (subst (λ (m : ℕ). f m (get_or xs j d) ≡ false) (omega arith) e))
    where
      q : f i x ≡ true
      q = subst (λ (k : ℕ). f k x ≡ true) (omega arith) (h 0 (omega arith))

      later : (all_from (suc i) xs ≡ false) × (lowest_from (suc i) xs ≡ suc i + j) → (all_from i (x ∷ xs) ≡ false) × (lowest_from i (x ∷ xs) ≡ i + suc j)
      later r = (rw q r.0, rw q (omega (arith, r.1)))

  -- one that stops at its first failure, j
  pub first_failed : (d : A) (xs : List A) (j : ℕ) → j < length xs → ((k : ℕ) → k < j → f k (get_or xs k d) ≡ true)
      → f j (get_or xs j d) ≡ false → (all_from 0 xs ≡ false) × (lowest_from 0 xs ≡ j)
  first_failed d xs j l h e =
      whole (failed_by d 0 xs j l (λ k u. subst (λ (m : ℕ). f m (get_or xs k d) ≡ true) (omega arith) (h k u))
      (subst (λ (m : ℕ). f m (get_or xs j d) ≡ false) (omega arith) e))
    where
      whole : (all_from 0 xs ≡ false) × (lowest_from 0 xs ≡ 0 + j) → (all_from 0 xs ≡ false) × (lowest_from 0 xs ≡ j)
      whole r = (r.0, omega (arith, r.1))

  -- m is the lowest index that fails, j elements after i
  abbrev Found : A → ℕ → List A → ℕ → Type 0
  Found d i xs m =
      (j : ℕ) × (m ≡ i + j) × (j < length xs) × (f (i + j) (get_or xs j d) ≡ false) × ((k : ℕ) → k < j → f (i + k) (get_or xs k d) ≡ true)

  found_later : (d : A) (i : ℕ) (x : A) (xs : List A) (m : ℕ) → f i x ≡ true → Found d (suc i) xs m → Found d i (x ∷ xs) m
  found_later d i x xs m q (j, e, l, u, v) =
      (suc j, omega arith, omega arith, subst (λ (n : ℕ). f n (get_or xs j d) ≡ false) (omega arith) u, below)
    where
      below : (k : ℕ) → k < suc j → f (i + k) (get_or (x ∷ xs) k d) ≡ true
      below zero y = subst (λ (n : ℕ). f n x ≡ true) (omega arith) q
      below (suc k) y = subst (λ (n : ℕ). f n (get_or xs k d) ≡ true) (omega arith) (v k (omega arith))

  found : (d : A) (i : ℕ) (xs : List A) → all_from i xs ≡ false → Found d i xs (lowest_from i xs)
  unfolding all_from lowest_from
  found d i [] e = clash refl e
  found d i (x ∷ xs) e = go (f i x) refl e (λ r. found d (suc i) xs r)
    where
      go : (t : Bool) → f i x ≡ t → (t && all_from (suc i) xs) ≡ false → (all_from (suc i) xs ≡ false → Found d (suc i) xs (lowest_from (suc i) xs))
          → Found d i (x ∷ xs) (cond t (lowest_from (suc i) xs) i)
      go true q r h = found_later d i x xs (lowest_from (suc i) xs) q (h r)
      go false q r h = (0, omega arith, omega arith, subst (λ (n : ℕ). f n x ≡ false) (omega arith) q, λ k l. absurd (omega arith))

  pub record Lowest (d : A) (xs : List A) (i : ℕ) : Type 0 where
    pub inside : i < length xs
    pub fails : f i (get_or xs i d) ≡ false
    pub below : (k : ℕ) → k < i → f k (get_or xs k d) ≡ true

  -- where not all pass, lowest_from finds it
  pub lowest_fails : (d : A) (xs : List A) → all_from 0 xs ≡ false → Lowest d xs (lowest_from 0 xs)
  lowest_fails d xs e = go (lowest_from 0 xs) (found d 0 xs e)
    where
      go : (m : ℕ) → Found d 0 xs m → Lowest d xs m
      go m (j, q, l, u, v) =
          let r : 0 + j ≡ m = sym q in
          let s : j ≡ m = omega arith in
          record {
            inside = omega arith;
            fails = subst (λ (n : ℕ). f m (get_or xs n d) ≡ false) s (subst (λ (n : ℕ). f n (get_or xs j d) ≡ false) r u);
            below = λ k y. subst (λ (n : ℕ). f n (get_or xs k d) ≡ true) (omega arith) (v k (omega arith));
          }

module _ {A : Type 0} (Q : ℕ → A → Type 0) (d : A) where
  each_from_by : (i : ℕ) (xs : List A) (j : ℕ) → EachFrom Q i xs → j < length xs → Q (i + j) (get_or xs j d)
  each_from_by i [] j h l = absurd (omega arith)
  each_from_by i (x ∷ xs) zero h l = subst (λ (k : ℕ). Q k x) (omega arith) h.0
  each_from_by i (x ∷ xs) (suc j) h l = subst (λ (k : ℕ). Q k (get_or xs j d)) (omega arith) (each_from_by (suc i) xs j h.1 (omega arith))

  pub each_from_at : (xs : List A) (j : ℕ) → EachFrom Q 0 xs → j < length xs → Q j (get_or xs j d)
  each_from_at xs j h l = subst (λ (k : ℕ). Q k (get_or xs j d)) (omega arith) (each_from_by 0 xs j h l)

-- ---- a list changed element by element

module _ {A : Type 0} (f : ℕ → A → A) where
  pub length_map_from : (i : ℕ) (xs : List A) → length (map_from f i xs) ≡ length xs
  unfolding map_from
  length_map_from i [] = refl
  length_map_from i (x ∷ xs) = ap suc (length_map_from (suc i) xs)

  map_from_by : (i : ℕ) (xs : List A) (j : ℕ) (d : A) → j < length xs → get_or (map_from f i xs) j d ≡ f (i + j) (get_or xs j d)
  unfolding map_from
  map_from_by i [] j d l = absurd (omega arith)
  map_from_by i (x ∷ xs) zero d l = ap (λ (k : ℕ). f k x) (omega arith)
  map_from_by i (x ∷ xs) (suc j) d l = map_from_by (suc i) xs j d (omega arith) ∙ ap (λ (k : ℕ). f k (get_or xs j d)) (omega arith)

  pub map_from_at : (xs : List A) (j : ℕ) (d : A) → j < length xs → get_or (map_from f 0 xs) j d ≡ f j (get_or xs j d)
  map_from_at xs j d l = map_from_by 0 xs j d l ∙ ap (λ (k : ℕ). f k (get_or xs j d)) (omega arith)

  rest_by : (d : A) (i n : ℕ) (xs : List A) → ((j : ℕ) → n ≤ j → j < length xs → f (i + j) (get_or xs j d) ≡ get_or xs j d) → map_to f i n xs ≡ map_from f i xs
  unfolding map_to map_from
  rest_by d i n [] h = refl
  rest_by d i zero (x ∷ xs) h =
      let q : f i x ≡ x = subst (λ (k : ℕ). f k x ≡ x) (omega arith) (h 0 (omega arith) (omega arith)) in
      let r = rest_by d (suc i) zero xs (λ j l m. subst (λ (k : ℕ). f k (get_or xs j d) ≡ get_or xs j d) (omega arith) (h (suc j) (omega arith) (omega arith))) in
      rw q (ap (λ t. x ∷ t) (sym (map_to_none f (suc i) xs) ∙ r))
  rest_by d i (suc n) (x ∷ xs) h =
      ap (λ t. f i x ∷ t) (rest_by d (suc i) n xs (λ j l m. subst (λ (k : ℕ). f k (get_or xs j d) ≡ get_or xs j d) (omega arith)
      (h (suc j) (omega arith) (omega arith))))

  -- a loop may stop where the rest stays as it is
  pub map_to_rest : (d : A) (n : ℕ) (xs : List A) → ((j : ℕ) → n ≤ j → j < length xs → f j (get_or xs j d) ≡ get_or xs j d) → map_to f 0 n xs ≡ map_from f 0 xs
  map_to_rest d n xs h = rest_by d 0 n xs (λ j l m. subst (λ (k : ℕ). f k (get_or xs j d) ≡ get_or xs j d) (omega arith) (h j l m))

-- where the index does not matter
pub map_from_map : {A : Type 0} (f : A → A) (i : ℕ) (xs : List A) → map_from (λ j x. f x) i xs ≡ map f xs
unfolding map_from
map_from_map f i [] = refl
map_from_map f i (x ∷ xs) = ap (λ r. f x ∷ r) (map_from_map f (suc i) xs)
