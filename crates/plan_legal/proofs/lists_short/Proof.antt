use Prim.Native.Nat.{◌*◌}
use mathlib.Core.Path.{ap₂}
use native.Mathlib.Omega.{arith}
use lib.ListN.{length}
use lib.Dec.{ltb}
use borrow.Author.Tests.{lt-ltb, le-ltb}
use Rattle.words.specs.Words.{words_of}
use borrow.Author.Rules.{rules}
use Rattle.plan_legal.proofs.lists_short.Statement.{statement}
use Rattle.plan_legal.proofs.lists_short.Tie as tie

returns : tie.Need-returns-then-entries-visits
returns c =
    let a = c.args in
    let e = c.entries.ensures in
    rw (lt-ltb (length (words_of a.positions.now)) (a.visits * a.blocks) (omega (arith, c.if-entries-visits.true)))

returns-2 : tie.Need-returns
returns-2 c =
    let l = c in
    let a = l.args in
    let e = l.entries.ensures in
    rw (le-ltb (length (words_of a.positions.now)) (a.visits * a.blocks) (omega (arith, l.if-entries-visits.false)))
    (ap₂ ltb c.entries-2.ensures c.entries_asked.ensures)

pub lists_short_spec : {M : Type 1} → statement M
lists_short_spec =
    tie.close
    (tie.spec
    (λ c κs. search rules)
    (λ c. let p = c.requires in omega arith)
    (λ c. omega arith)
    returns
    (λ c κs. search rules)
    (λ c κs. search rules)
    (λ c. search rules)
    returns-2)
