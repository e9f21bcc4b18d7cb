-- Laws of what specs/Numbered defines.
use Prim.Native.Nat.{ℕ, zero, suc, ◌+◌, ◌-◌, ◌/◌, ◌%◌, ◌<◌}
use Rattle.std.specs.Prelude.{◌≡◌, length, get_or}
use Rattle.std.proofs.Common.{ap, ◌∙◌, arith}
use mathlib.Core.List.{List, [], ◌∷◌, map}
use Rattle.std.proofs.lemmas.List.{length-map}
use Rattle.laws.specs.Members.{map_at, each_at}
use Rattle.layings.specs.Layings.{others, arrangements}
use Rattle.layings.specs.Numbered.{factorial, factorial_pos, numbered, rest_below, arrangements_length}

pub arrangement_at : (n r : ℕ) (xs : List ℕ) → r < factorial n → get_or (arrangements n xs) r [] ≡ numbered n r xs
unfolding arrangements numbered factorial
arrangement_at zero r xs h = let e : r ≡ 0 = omega arith in rw e
arrangement_at (suc n) r xs h =
    let e : 0 + r / factorial n ≡ r / factorial n = omega arith in
    each_at (λ i. map (λ ys. get_or xs i 0 ∷ ys) (arrangements n (others i xs))) (factorial n)
    (λ i. length-map (arrangements n (others i xs)) (λ ys. get_or xs i 0 ∷ ys) ∙ arrangements_length n (others i xs)) 0 (suc n) r [] (factorial_pos n) h
    ∙ rw e (map_at (λ ys. get_or xs (r / factorial n) 0 ∷ ys) (arrangements n (others (r / factorial n) xs)) (r % factorial n) [] []
    (omega (arith, rest_below n r, arrangements_length n (others (r / factorial n) xs)))
    ∙ ap (λ ys. get_or xs (r / factorial n) 0 ∷ ys) (arrangement_at n (r % factorial n) (others (r / factorial n) xs) (rest_below n r)))
