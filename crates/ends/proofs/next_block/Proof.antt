use Prim.Native.Nat.{◌+◌, ◌<◌}
use native.Mathlib.Omega.{arith}
use borrow.Author.Rules.{rules}
use Rattle.plan.specs.Plan.{showing_of}
use Rattle.ends.proofs.Ending.{goes_on, goes_round, goes_past}
use Rattle.ends.proofs.next_block.Statement.{statement}
use Rattle.ends.proofs.next_block.Tie as tie

abbrev start : tie.Else-block-blocks → tie.Start
start c = c.before

-- a number below 16,384 in its film has room above it
small : (s : tie.Start) → s.args.next + 1 < 4294967296
small s = let n : s.args.next < 4294967296 = search rules in omega (arith, s.requires)

add-if1 : tie.Need-overflow_add-block
add-if1 c = omega (arith, c.requires)

add-result : tie.Need-overflow_add-result
add-result c = omega (arith, small c.before)

sub-result : tie.Need-overflow_sub-result
sub-result c = omega arith

add-result-2 : tie.Need-overflow_add-result-2
add-result-2 c = omega (arith, small (start c.before))

returns : tie.Need-returns-then-block-blocks
returns c = let s = c in let a = s.args in
    goes_on a.blocks a.next s.requires.0 s.requires.1 (showing_of a.showing) (omega (arith, c.if-block-blocks.true))

returns-2 : tie.Need-returns-then-showing-eq-LOOP
returns-2 c = let s = start c.before in let a = s.args in
    goes_round a.blocks a.next s.requires.0 s.requires.1 a.showing c.if-showing-eq-LOOP.true (omega (arith, s.requires, c.if-block-blocks.false))

returns-3 : tie.Need-returns
returns-3 c = let s = start c.before in let a = s.args in
    goes_past a.blocks a.next s.requires.0 s.requires.1 a.showing c.if-showing-eq-LOOP.false

pub next_block_spec : {M : Type 1} → statement M
next_block_spec = tie.close (tie.spec add-if1 add-result returns sub-result returns-2 add-result-2 returns-3)
