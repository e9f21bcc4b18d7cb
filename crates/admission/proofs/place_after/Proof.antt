use Prim.Native.Nat.{ℕ, ◌+◌}
use mathlib.Core.Path.{ap, ◌∙◌}
use native.Mathlib.Omega.{arith}
use lib.ListN.{take}
use borrow.Author.Rules.{rules}
use Rattle.words.specs.Words.{words_of}
use Rattle.desk.specs.Asked.{asked_count}
use Rattle.desk_layout.specs.Layout.{desk_in}
use Rattle.admission.specs.Places.{place_after}
use Rattle.admission.proofs.place_after.Statement.{statement}
use Rattle.admission.proofs.place_after.Tie as tie

asked-in-requires : tie.Need-asked_in-asked-requires
asked-in-requires c κs = omega (arith, c.streams_in.ensures)

returns : tie.Need-returns-then-step
unfolding place_after
returns c =
    let s = c in
    let t = c in
    let d = desk_in (words_of t.args.desk.now) in
    rw t.if-step.true (ap (λ (n : ℕ). n + 1) (c.asked_in-asked.ensures.0 ∙ ap (λ (n : ℕ). asked_count (take n d.kinds)) s.streams_in.ensures))

returns-2 : tie.Need-returns
unfolding place_after
returns-2 c = rw c.if-step.false

pub place_after_spec : {M : Type 1} → statement M
place_after_spec =
    tie.close (tie.spec (λ c κs. search rules) (λ c. search rules) asked-in-requires (λ c. omega (arith, c.asked_in-asked.ensures.1)) returns returns-2)
