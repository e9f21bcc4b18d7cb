use mathlib.Core.Path.{sym}
use native.Mathlib.Omega.{arith}
use Rattle.turns.specs.Places.{drop_same, drop_less, drop_more}
use Rattle.admission.proofs.lowered.Statement.{statement}
use Rattle.admission.proofs.lowered.Tie as tie

returns : tie.Need-returns-then-place-gone
returns c = sym (drop_same _ _ c.if-place-gone.true)

returns-2 : tie.Need-returns-then-place-gone-2
returns-2 c = sym (drop_more _ _ c.if-place-gone-2.true)

returns-3 : tie.Need-returns
returns-3 c = sym (drop_less _ _ (omega arith))

pub lowered_spec : {M : Type 1} → statement M
lowered_spec = tie.close (tie.spec returns (λ c. omega arith) returns-2 returns-3)
