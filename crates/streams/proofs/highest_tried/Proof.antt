use native.Mathlib.Omega.{arith}
use native.Mathlib.Nat.{div-lt_iff_lt-mul}
use borrow.Author.Rules.{rules}
use Rattle.streams.proofs.highest_tried.Statement.{statement}
use Rattle.streams.proofs.highest_tried.Tie as tie

returns : tie.Need-returns-then-worst2-eq0
returns c = (omega arith, λ k i u. absurd (omega arith))

returns-2 : tie.Need-returns-then-fit-most
returns-2 c = let a = c.before.before.args in
    (omega arith, λ k i u. omega (arith, (div-lt_iff_lt-mul {k = a.worst2} {x = a.room} {y = k} (omega arith)).0 i))

returns-3 : tie.Need-returns
returns-3 c = (omega arith, λ k i u. absurd (omega arith))

pub highest_tried_spec : {M : Type 1} → statement M
highest_tried_spec = tie.close (tie.spec returns (λ c. omega arith) (λ c. search rules) returns-2 returns-3)
