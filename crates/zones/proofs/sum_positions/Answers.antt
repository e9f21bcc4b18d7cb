use Rattle.std.proofs.Common.{◌≡◌, ◌<◌, ℕ, List, [], ◌∷◌, take, refl, arith}
use Rattle.std.specs.Prelude.{sum}
use Rattle.std.proofs.lemmas.Grind.{common_steps}
use Rattle.std.proofs.lemmas.List.Sums.{sum_by-cons}
use Rattle.laws.specs.Runs.{sum_by}
use Rattle.placement.specs.Zones.{total, total_take}
use Rattle.zones.proofs.sum_positions.Goals as goal

total_sum : (ps : List ℕ) → total ps ≡ sum ps
unfolding total sum_by
total_sum [] = refl
total_sum (p ∷ ps) = omega (arith, sum_by-cons (λ q. q) p ps, total_sum ps)

pub returns : goal.returns
returns c = let whole = total_sum (take c.args.zones c.args.sizes.now) in grind (arith, common_steps, whole)

pub sum-requires-clause-fits : goal.sum-requires-clause-fits
sum-requires-clause-fits c =
    let ps = c.args.sizes.now in
    let n = c.args.zones in
    let fits : sum (take n ps) < 4294967296 = omega (arith, total_sum (take n ps), total_take ps n, c.requires.0.small) in
    λ p seen from. grind (arith, common_steps, fits)
