use mathlib.Core.Path.{sym}
use native.Mathlib.Omega.{arith}
use Rattle.tracks.specs.TracksLaws.{narrowed_small, narrowed_great}
use Rattle.tracks.proofs.narrow.Goals as goal

pub returns-then-a : goal.returns-then-a
returns-then-a c = sym (narrowed_great _ c.if-a.true)

pub returns : goal.returns
returns c = let a = c.args in sym (narrowed_small a.a (omega arith))
