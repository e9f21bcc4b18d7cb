use Rattle.std.proofs.Common.{◌≡◌, ℕ, zero, suc, ◌+◌, ◌<◌, List, [], ◌∷◌, get_or, take, refl, arith}
use Rattle.std.specs.Prelude.{sum}
use Rattle.std.proofs.lemmas.Grind.{common_steps}
use Rattle.std.proofs.lemmas.List.Sums.{sum_by-cons}
use Rattle.laws.specs.Starts.{start_of}
use Rattle.plan.proofs.blocks_before.Goals as goal

start_empty : (n : ℕ) → (let none : List ℕ = [] in start_of (λ i. get_or none i 0) n ≡ 0)
unfolding start_of
start_empty zero = refl
start_empty (suc n) = omega (arith, start_empty n)

-- the first film and those after it
start_first : (b : ℕ) (bs : List ℕ) (n : ℕ) → start_of (λ i. get_or (b ∷ bs) i 0) (suc n) ≡ b + start_of (λ i. get_or bs i 0) n
unfolding start_of
start_first b bs zero = omega arith
start_first b bs (suc n) = omega (arith, start_first b bs n)

sum_before : (bs : List ℕ) (n : ℕ) → start_of (λ i. get_or bs i 0) n ≡ sum (take n bs)
unfolding start_of
sum_before bs zero = refl
sum_before [] (suc n) = start_empty (suc n)
sum_before (b ∷ bs) (suc n) = omega (arith, start_first b bs n, sum_by-cons (λ x. x) b (take n bs), sum_before bs n)

pub sum-requires-clause-fits : goal.sum-requires-clause-fits
sum-requires-clause-fits c =
    let bs = c.args.blocks.now in
    let n = c.args.films in
    let fits : sum (take n bs) < 4294967296 = omega (arith, sum_before bs n, c.requires.1) in
    λ p seen from. grind (arith, common_steps, fits)

pub returns : goal.returns
returns c = let before = sum_before c.args.blocks.now c.args.films in grind (arith, common_steps, before)
