use Prim.Native.Nat.{ℕ, ◌+◌, ◌-◌, ◌*◌}
use mathlib.Core.Path.{◌≡◌, ap, ap₂, ◌∙◌}
use native.Mathlib.Omega.{arith}
use Rattle.numbers.specs.Units.{minute}
use Rattle.tracks.specs.Tracks.{rounded_up, time_in, narrowed}
use Rattle.tracks.specs.TracksLaws.{TimeFits, time_fits}
use borrow.Author.Rules.{rules}
use Rattle.tracks.proofs.time.Statement.{statement}
use Rattle.tracks.proofs.time.Tie as tie

fit : (s : tie.Start) → TimeFits s.args.turns s.args.switch s.args.block s.args.track
fit s = let p = s.requires in time_fits _ _ _ _ p.0 p.1 p.2 p.4 p.5 p.6

mul-round-up : tie.Need-overflow_mul-turns
mul-round-up c = let f = fit c.before in omega (arith, f.turned.1)

cast-round-up : tie.Need-overflow_cast-turns
cast-round-up c = let f = fit c.before in omega (arith, f.turned.1)

round-up-requires : tie.Need-round_up-reading-requires
round-up-requires c κs = let f = fit c.before in (f.turned.0, omega (arith, f.turned.1, f.sectors, c.product.ensures))

cast-product : tie.Need-overflow_cast-switches
cast-product c = let f = fit c.before.before.before in omega (arith, f.few, c.round_up-switches.ensures)

-- the two parts of the time
reading : (c : tie.After-round_up-reading) → let a = c.before.before.args in c.round_up-reading.result ≡ rounded_up (a.block * minute) (a.turns * a.track)
reading c = let a = c.before.before.args in c.round_up-reading.ensures ∙ ap (λ (x : ℕ). rounded_up x (a.turns * a.track)) c.before.product.ensures

switching : (c : tie.After-product-2) → let a = c.before.before.before.before.args in c.product-2.result ≡ a.switch * rounded_up (a.block - 1) a.track
switching c = let a = c.before.before.before.before.args in c.product-2.ensures ∙ ap (λ (x : ℕ). a.switch * x) c.before.round_up-switches.ensures

add-narrow : tie.Need-overflow_add-reading
add-narrow c = let f = fit c.before.before.before.before in omega (arith, f.reading, f.switching, reading c.before.before, switching c)

returns : tie.Need-returns
unfolding time_in
returns c = c.narrow.ensures ∙ ap₂ (λ (x y : ℕ). narrowed (x + y)) (reading c.before.before.before) (switching c.before)

pub time_spec : {M : Type 1} → statement M
time_spec =
    tie.close
    (tie.spec
    (λ c κs. search rules)
    mul-round-up
    cast-round-up
    round-up-requires
    (λ c. search rules)
    (λ c. search rules)
    (λ c κs. search rules)
    cast-product
    (λ c κs. search rules)
    add-narrow
    (λ c κs. search rules)
    returns)
