use native.Mathlib.Omega.{arith}
use borrow.Author.Rules.{rules}
use Rattle.soundness.proofs.slots.least_held.Statement.{statement}
use Rattle.soundness.proofs.slots.least_held.Tie as tie

returns : tie.Need-returns-then-mark-eq0
returns c = λ h. (λ _. omega arith, λ _. omega arith)

returns-2 : tie.Need-returns
returns-2 c = λ h. (λ l. omega arith, λ l. omega arith)

pub least_held_spec : {M : Type 1} → statement M
least_held_spec = tie.close (tie.spec returns (λ c. omega arith) (λ c. search rules) (λ c. search rules) (λ c. omega arith) returns-2)
