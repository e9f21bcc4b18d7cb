use native.Mathlib.Omega.{arith}
use mathlib.Core.Path.{sym, ◌∙◌}
use borrow.Author.Rules.{rules}
use Rattle.ends.proofs.Ending.{swept_full, swept_last, swept_on}
use Rattle.ends.proofs.swept.Statement.{statement}
use Rattle.ends.proofs.swept.Tie as tie

abbrev start : tie.After-next_block-next → tie.Start
start c = c.before.before.before

sub-t10 : tie.Need-overflow_sub-result
sub-t10 c = omega (arith, c.requires.0.drawn)

returns : tie.Need-returns-then-room-slot
returns c = λ p f. let a = c in
    swept_full p _ _ _ _ a.args.slot f a.args.draw a.requires.1 a.requires.2 (omega arith)

next-block-requires : tie.Need-next_block-next-requires
next-block-requires c κs = let a = c in
    (a.requires.0.named a.requires.1 a.requires.2, a.requires.0.few)

sub_held : tie.Need-overflow_sub-held
sub_held c = omega (arith, (start c.before).requires.0.drawn)

add-held : tie.Need-overflow_add-held
add-held c = omega (arith, (start c.before).requires.0.drawn)

is-past-requires : tie.Need-is_past-requires
is-past-requires c κs = search rules

returns-2 : tie.Need-returns-then-is_past
returns-2 c = λ p f. let n = c in
    let a = start c.before.before.before in
    swept_last p _ _ _ _ a.args.slot f a.args.draw a.requires.1 a.requires.2 (omega arith) (a.requires.0.named a.requires.1 a.requires.2)
    n.next_block-next.result n.next_block-next.ensures
    (sym c.is_past.ensures ∙ c.if-is_past.true)

returns-3 : tie.Need-returns
returns-3 c = λ p f. let n = c in
    let a = start c.before.before.before in
    swept_on p _ _ _ _ a.args.slot f a.args.draw a.requires.1 a.requires.2 (omega arith) (a.requires.0.named a.requires.1 a.requires.2)
    n.next_block-next.result n.next_block-next.ensures
    (sym c.is_past.ensures ∙ c.if-is_past.false)

pub swept_spec : {M : Type 1} → statement M
swept_spec =
    tie.close
    (tie.spec
    sub-t10
    returns
    next-block-requires
    sub_held
    add-held
    is-past-requires
    returns-2
    returns-3)
