use mathlib.Core.Path.{◌≡◌, sym, ap₂, subst}
use mathlib.Core.List.{List}
use Prim.Native.Nat.{ℕ, ◌+◌, ◌*◌}
use native.Mathlib.Omega.{arith}
use borrow.Author.Rules.{rules}
use Rattle.gather.specs.declared.Block.{Block}
use Rattle.gather.specs.Gather.{Spot, Halves}
use Rattle.gather.proofs.block_at.Statement.{statement}
use Rattle.gather.proofs.block_at.Tie as tie

twice : (b : ℕ) → 2 * b ≡ b + b
twice b = omega arith

halves-at : (sizes times ps : List ℕ) (b : ℕ) (r : Block) → Halves sizes times ps (b + b) r → Halves sizes times ps (2 * b) r
halves-at sizes times ps b r h = subst (λ (j : ℕ). Halves sizes times ps j r) (sym (twice b)) h

-- both entries of the list, by the sum
both : (c : tie.Else-visits-eq1) → (let a = c.args in
    Spot a.sizes.now a.times.now a.positions.now (a.block + a.block)
    × Spot a.sizes.now a.times.now a.positions.now (a.block + a.block + 1))
both c =
    let s = c in
    let a = s.args in
    subst (λ (j : ℕ). Spot a.sizes.now a.times.now a.positions.now j × Spot a.sizes.now a.times.now a.positions.now (j + 1))
    (twice a.block) (s.requires.1.both c.if-visits-eq1.false)

spot-at-requires : tie.Need-spot_at-requires
spot-at-requires c κs = let s = c in (s.requires.0, s.requires.1.alone c.if-visits-eq1.true)

returns : tie.Need-returns-then-visits-eq1
returns c = record { alone = λ e. c.spot_at.ensures; both = λ n. absurd (n c.if-visits-eq1.true) }

spot-at-requires-2 : tie.Need-spot_at-first-requires
spot-at-requires-2 c κs = (c.requires.0, (both c).0)

spot-at-requires-3 : tie.Need-spot_at-second-requires
spot-at-requires-3 c κs = (c.requires.0, (both c.before).1)

add-t13 : tie.Need-overflow_add-result
add-t13 c =
    let g = c in
    let f = c in
    let e = c in
    let r = both c.before.before.before.before in
    omega (arith, f.spot_at-first.ensures.time, g.spot_at-second.ensures.time, r.0.quick, r.1.quick)

returns-2 : tie.Need-returns
returns-2 c =
    let g = c in
    let f = c in
    let a = f.spot_at-first.ensures in
    let b = g.spot_at-second.ensures in
    record {
      alone = λ e. absurd (f.if-visits-eq1.false e);
      both = λ n. halves-at _ _ _ _ _
          (record { time = ap₂ (λ (x y : ℕ). x + y) a.time b.time; position = a.position; other = b.position });
    }

pub block_at_spec : {M : Type 1} → statement M
block_at_spec =
    tie.close
    (tie.spec
    spot-at-requires
    returns
    (λ c. search rules)
    spot-at-requires-2
    (λ c. search rules)
    spot-at-requires-3
    add-t13
    returns-2)
