use mathlib.Core.Path.{sym, ap}
use borrow.Author.Tests.{lt-ltb, le-ltb}
use native.Mathlib.Omega.{arith}
use Rattle.laws.specs.Bools.{bit}
use Rattle.grants.proofs.asks.Goals as goal

pub returns-then-place-gt0 : goal.returns-then-place-gt0
returns-then-place-gt0 c = sym (ap bit (lt-ltb 0 _ c.if-place-gt0.true))

pub returns : goal.returns
returns c = sym (ap bit (le-ltb 0 c.args.place (omega arith)))
