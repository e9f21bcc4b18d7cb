use native.Mathlib.Omega.{arith}
use borrow.Author.Rules.{rules}
use Rattle.leb128.proofs.NumberWays.{Writing, write_start, write_room, write_more, write_end}
use Rattle.leb128.proofs.write_number.Statement.{statement}
use Rattle.leb128.proofs.write_number.Tie as tie

abbrev invariant-loop : tie.invariant-loop-rest
invariant-loop out₀ start v rest₀ at₀ out rest at = Writing out₀ start v out rest at

abbrev decreases-loop : tie.decreases-loop-rest
decreases-loop out₀ start v rest₀ at₀ out rest at = rest

loop-holds : tie.Need-loop-rest-init invariant-loop decreases-loop
loop-holds c = write_start _ _ _ (search rules)

add-out : tie.Need-overflow_add-out invariant-loop decreases-loop
add-out c = search rules

cast-out : tie.Need-overflow_cast-out invariant-loop decreases-loop
cast-out c = search rules

slice-write-out : tie.Need-bounds-out-at invariant-loop decreases-loop
slice-write-out c = write_room _ _ _ _ _ _ c.before.loop-rest.invariant c.before.before.requires

add_at : tie.Need-overflow_add-at invariant-loop decreases-loop
add_at c = search rules

loop-less : tie.Need-loop-rest-smaller invariant-loop decreases-loop
loop-less c = search rules

loop-again : tie.Need-loop-rest-preserved invariant-loop decreases-loop
loop-again c = write_more _ _ _ _ _ _ c.before.loop-rest.invariant (slice-write-out c) (omega arith)

cast-out-2 : tie.Need-overflow_cast-out-2 invariant-loop decreases-loop
cast-out-2 c = search rules

slice-write-out-2 : tie.Need-bounds-out-at-2 invariant-loop decreases-loop
slice-write-out-2 c = write_room _ _ _ _ _ _ c.before.loop-rest.invariant c.before.before.requires

add-result : tie.Need-overflow_add-result invariant-loop decreases-loop
add-result c = search rules

same_length : tie.Need-shape_of-out invariant-loop decreases-loop
same_length c = search rules

returns : tie.Need-returns invariant-loop decreases-loop
returns c = write_end _ _ _ _ _ _ c.before.loop-rest.invariant (slice-write-out-2 c) (omega arith)

pub write_number_spec : {M : Type 1} → statement M
write_number_spec =
    tie.close
    (tie.spec
    invariant-loop
    decreases-loop
    loop-holds
    add-out
    cast-out
    slice-write-out
    add_at
    loop-less
    loop-again
    cast-out-2
    slice-write-out-2
    add-result
    same_length
    returns)
