use Rattle.std.proofs.Common.{refl, ap, ◌∙◌, add-one, arith}
use Rattle.std.proofs.lemmas.List.{get_or-take}
use Rattle.laws.specs.Greatest.{greatest_of}
use Rattle.plan.specs.Disk.{length_at}
use Rattle.window.proofs.longest.Goals as goal

pub loop-film-init : goal.loop-film-init
unfolding greatest_of
loop-film-init c = refl

pub loop-film-preserved : goal.loop-film-preserved
unfolding greatest_of
loop-film-preserved c =
    let l = c.loop-film in
    let b = c.args.blocks.now in
    let own = get_or-take c.args.films b l.film-index 0 (omega (arith, c.loop-film-test.true)) in
    omega (arith, c.max-most.ensures, own, l.invariant, ap (greatest_of (length_at b)) (add-one l.film-index))

pub returns : goal.returns
returns c =
    let l = c.loop-film in
    l.invariant ∙ ap (greatest_of (length_at c.args.blocks.now)) (omega (arith, c.requires, c.loop-film-test.false))
