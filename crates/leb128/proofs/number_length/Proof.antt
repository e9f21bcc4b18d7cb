use native.Mathlib.Omega.{arith}
use borrow.Author.Rules.{rules}
use Rattle.leb128.proofs.NumberWays.{Counting, count_start, count_more, count_end}
use Rattle.leb128.proofs.number_length.Statement.{statement}
use Rattle.leb128.proofs.number_length.Tie as tie

abbrev invariant-loop : tie.invariant-loop-rest
invariant-loop v rest₀ count₀ rest count = Counting v rest count

abbrev decreases-loop : tie.decreases-loop-rest
decreases-loop v rest₀ count₀ rest count = rest

loop-holds : tie.Need-loop-rest-init invariant-loop decreases-loop
loop-holds c = count_start c.args.v (search rules)

add-count : tie.Need-overflow_add-count invariant-loop decreases-loop
add-count c = omega arith

loop-less : tie.Need-loop-rest-smaller invariant-loop decreases-loop
loop-less c = omega arith

loop-again : tie.Need-loop-rest-preserved invariant-loop decreases-loop
loop-again c = count_more _ _ _ c.before.loop-rest.invariant (omega arith)

returns : tie.Need-returns invariant-loop decreases-loop
returns c = count_end _ _ _ c.before.loop-rest.invariant (omega arith)

pub number_length_spec : {M : Type 1} → statement M
number_length_spec =
    tie.close (tie.spec invariant-loop decreases-loop loop-holds add-count loop-less loop-again returns)
