use Prim.Native.Nat.{◌+◌, ◌*◌, ◌%◌, ◌^◌, ◌≤◌, ◌<◌}
use mathlib.Core.Path.{◌≡◌}
use mathlib.Core.Logic.{⊎_elim}
use native.Mathlib.Omega.{arith}
use Rattle.numbers.specs.Limits.{no_number}
use Rattle.leb128.proofs.NumberWays.{judged_zero, judged_first, judged_more, judged_great_first, judged_great_more}
use borrow.Author.Rules.{rules}
use Rattle.leb128.proofs.last_group.Statement.{statement}
use Rattle.leb128.proofs.last_group.Tie as tie

returns : tie.Need-returns-then-b-eq0
returns c = judged_zero _ _ _ _ c.before.before.requires.0 c.before.if-at-start.true c.if-b-eq0.true

shl-value : tie.Need-overflow_shl-value
shl-value c = search rules

add-value : tie.Need-overflow_add-value
add-value c = omega arith

cast-t11 : tie.Need-overflow_cast-result
cast-t11 c = search rules

add-t12 : tie.Need-overflow_add-result
add-t12 c = search rules

returns-2 : tie.Need-returns-then-value-lt-NO_NUMBER
returns-2 c =
    let a = c.before.before.args in
    let v = a.sum + a.b * 2 ^ a.shift in
    let e : a.b * 2 ^ a.shift % 2 ^ 64 ≡ a.b * 2 ^ a.shift = omega arith in
    let h : v < no_number = omega (arith, c.if-value-lt-NO_NUMBER.true) in
    rw e
    (⊎_elim
    (λ w. judged_more a.start a.at a.b v c.before.before.requires.0 w.if-at-start.true w.if-b-eq0.false h)
    (λ w. judged_first a.start a.at a.b v c.before.before.requires.0 w.if-at-start.false h)
    c.before.if-at-start.branch-raw)

returns-3 : tie.Need-returns-else-value-lt-NO_NUMBER
returns-3 c =
    let a = c.before.before.args in
    let v = a.sum + a.b * 2 ^ a.shift in
    let h : no_number ≤ v = omega (arith, c.if-value-lt-NO_NUMBER.false) in
    ⊎_elim
    (λ w. judged_great_more a.start a.at a.b v c.before.before.requires.0 w.if-at-start.true w.if-b-eq0.false h)
    (λ w. judged_great_first a.start a.at a.b v c.before.before.requires.0 w.if-at-start.false h)
    c.before.if-at-start.branch-raw

pub last_group_spec : {M : Type 1} → statement M
last_group_spec =
    tie.close (tie.spec returns shl-value add-value cast-t11 add-t12 returns-2 returns-3)
