-- The orders of n numbers by their place in the list: n! in all, and the r-th is found by dividing r.
-- Assumes nothing.
use Prim.Native.Nat.{ℕ, zero, suc, ◌+◌, ◌*◌, ◌-◌, ◌/◌, ◌%◌, ◌≤◌, ◌<◌}
use Rattle.std.specs.Prelude.{◌≡◌, length, get_or, set, take}
use Rattle.std.proofs.Math.Path.{refl, sym}
use Rattle.std.proofs.Common.{ap, ◌∙◌, arith, add-one, mul-pos, mul-le-mul_right, mod-lt, div-lt_iff_lt-mul, length-set, get_or-take}
use Rattle.std.proofs.Math.Logic.{by_cases}
use mathlib.Core.List.{List, [], ◌∷◌, map}
use Rattle.std.proofs.Math.Decide.{dec_le}
use Rattle.std.proofs.Math.Nat.{mul-div_cancel_left}
use Rattle.std.proofs.lemmas.List.{length-map}
use Rattle.std.proofs.Math.Seq.{take-nil, take-set-lt}
use Rattle.numbers.specs.Limits.{max_tried}
use Rattle.laws.specs.Members.{map_at, each_length}
use Rattle.layings.specs.Layings.{others, arrangements}

unfoldable pub factorial : ℕ → ℕ
factorial zero = 1
factorial (suc n) = suc n * factorial n

pub factorial_pos : (n : ℕ) → 0 < factorial n
unfolding factorial
factorial_pos zero = omega arith
factorial_pos (suc n) = mul-pos (omega arith) (factorial_pos n)

pub factorial_rises : (m n : ℕ) → m ≤ n → factorial m ≤ factorial n
unfolding factorial
factorial_rises m zero h = let e : m ≡ 0 = omega arith in rw e (omega arith)
factorial_rises m (suc n) h = by_cases (dec_le m n)
    (λ l. omega (arith, factorial_rises m n l, mul-le-mul_right (factorial n) one_more))
    (λ l. let e : m ≡ suc n = omega arith in rw e (omega arith))
  where
    one_more : 1 ≤ suc n
    one_more = omega arith

-- so many are the most that are tried
pub factorial_most : (n : ℕ) → n ≤ max_tried → factorial n ≤ 40320
unfolding factorial
factorial_most n h = factorial_rises n max_tried h

-- one factor more, and one less
pub factorial_next : (n : ℕ) → factorial (n + 1) ≡ (n + 1) * factorial n
unfolding factorial
factorial_next n = rw (add-one n)

pub factorial_down : (n : ℕ) → 0 < n → factorial n / n ≡ factorial (n - 1)
unfolding factorial
factorial_down zero h = absurd (omega arith)
factorial_down (suc n) h = let e : suc n - 1 ≡ n = omega arith in rw e (mul-div_cancel_left (factorial n) h)

-- the order that stands at place r
unfoldable pub numbered : ℕ → ℕ → List ℕ → List ℕ
numbered zero r xs = []
numbered (suc n) r xs = get_or xs (r / factorial n) 0 ∷ numbered n (r % factorial n) (others (r / factorial n) xs)

-- the numbers that it is found by are small enough
pub pick_below : (n r : ℕ) → r < factorial (suc n) → r / factorial n < suc n
unfolding factorial
pick_below n r h = (div-lt_iff_lt-mul (factorial_pos n)).1 h

pub rest_below : (n r : ℕ) → r % factorial n < factorial n
rest_below n r = mod-lt r (factorial_pos n)

-- ---- the list

pub arrangements_length : (n : ℕ) (xs : List ℕ) → length (arrangements n xs) ≡ factorial n
unfolding arrangements factorial
arrangements_length zero xs = refl
arrangements_length (suc n) xs =
    each_length (λ i. map (λ ys. get_or xs i 0 ∷ ys) (arrangements n (others i xs))) (factorial n)
    (λ i. length-map (arrangements n (others i xs)) (λ ys. get_or xs i 0 ∷ ys) ∙ arrangements_length n (others i xs)) 0 (suc n)

-- ---- the first n of a longer list

others_take : (i n : ℕ) (xs : List ℕ) → i ≤ n → others i (take (suc n) xs) ≡ take n (others i xs)
unfolding others
others_take i n [] h = sym (take-nil n)
others_take zero n (x ∷ xs) h = refl
others_take (suc i) n (x ∷ xs) h = sym (take-set-lt n xs i x (omega arith))

pub numbered_take : (n r : ℕ) (xs : List ℕ) → r < factorial n → numbered n r xs ≡ numbered n r (take n xs)
unfolding numbered
numbered_take zero r xs h = refl
numbered_take (suc n) r xs h =
    let u = pick_below n r h in
    rw (get_or-take (suc n) xs (r / factorial n) 0 u, others_take (r / factorial n) n xs (omega arith))
    (ap (λ ys. get_or xs (r / factorial n) 0 ∷ ys) (numbered_take n (r % factorial n) (others (r / factorial n) xs) (rest_below n r)))

-- ---- each number changed by f

pub others_length : (i : ℕ) (xs : List ℕ) → length (others i xs) ≡ length xs - 1
unfolding others
others_length i [] = refl
others_length zero (x ∷ xs) = omega arith
others_length (suc i) (x ∷ xs) = omega (arith, length-set xs i x)

module _ (f : ℕ → ℕ) where
  map_set : (xs : List ℕ) (i x : ℕ) → map f (set xs i x) ≡ set (map f xs) i (f x)
  map_set [] i x = refl
  map_set (y ∷ ys) zero x = refl
  map_set (y ∷ ys) (suc i) x = ap (λ zs. f y ∷ zs) (map_set ys i x)

  others_map : (i : ℕ) (xs : List ℕ) → others i (map f xs) ≡ map f (others i xs)
  unfolding others
  others_map i [] = refl
  others_map zero (x ∷ xs) = refl
  others_map (suc i) (x ∷ xs) = sym (map_set xs i x)

  pub numbered_map : (n r : ℕ) (xs : List ℕ) → n ≤ length xs → r < factorial n → numbered n r (map f xs) ≡ map f (numbered n r xs)
  unfolding numbered
  numbered_map zero r xs l h = refl
  numbered_map (suc n) r xs l h =
      let u = pick_below n r h in
      let q = r / factorial n in
      rw (map_at f xs q 0 0 (omega arith), others_map q xs)
      (ap (λ ys. f (get_or xs q 0) ∷ ys) (numbered_map n (r % factorial n) (others q xs) (omega (arith, others_length q xs)) (rest_below n r)))

pub numbered_length : (n r : ℕ) (xs : List ℕ) → length (numbered n r xs) ≡ n
unfolding numbered
numbered_length zero r xs = refl
numbered_length (suc n) r xs = ap suc (numbered_length n (r % factorial n) (others (r / factorial n) xs))
