use mathlib.Core.Path.{refl, ap, ◌∙◌}
use native.Mathlib.Omega.{arith}
use Rattle.placement.specs.Zones.{time_at}
use Rattle.gather.proofs.spot_at.Goals as goal

pub word_at-position-requires : goal.word_at-position-requires
word_at-position-requires c = c.requires.1.listed

pub time_at-requires : goal.time_at-requires
time_at-requires c = (c.requires.0, omega (arith, c.requires.1.within, c.word_at-position.ensures))

pub returns : goal.returns
returns c = let w = c.word_at-position in
    record { time = c.time_at.ensures ∙ ap (time_at c.args.sizes.now c.args.times.now) w.ensures; position = w.ensures; other = refl }
