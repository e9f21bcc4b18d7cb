use Rattle.std.proofs.Common.{ℕ, ◌-◌, List, get_or, refl, sym, ap, ◌∙◌, arith}
use Rattle.std.proofs.Math.ListN.{set}
use Rattle.laws.specs.Map.{map_to, map_to_none, store_next}
use Rattle.laws.specs.Indices.{map_to_rest, map_from_map}
use Rattle.grants.proofs.drop_places.Goals as goal

pub loop-i-init : goal.loop-i-init
loop-i-init c = sym (map_to_none _ 0 _)

pub loop-i-preserved : goal.loop-i-preserved
loop-i-preserved c =
    let l = c.loop-i in
    let g = c.args.granted in
    ap (λ (v : ℕ). set l.places l.i v) c.dropped.ensures
    ∙ ap (λ (qs : List ℕ). set qs l.i (get_or qs l.i 0 - g)) l.invariant
    ∙ store_next (λ j x. x - g) l.i c.args.places.now 0 _ (omega arith) refl

pub returns : goal.returns
returns c =
    let g = c.args.granted in
    c.loop-i.invariant
    ∙ ap (λ (n : ℕ). map_to (λ j x. x - g) 0 n c.args.places.now) (omega arith)
    ∙ map_to_rest (λ j x. x - g) 0 c.args.streams _ (λ j h u. omega (arith, c.requires.2 j h))
    ∙ map_from_map (λ x. x - g) 0 _
