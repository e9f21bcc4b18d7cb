use Prim.Native.Nat.{ℕ}
use mathlib.Core.Path.{sym, ap, ◌∙◌}
use mathlib.Core.Bool.{Bool}
use mathlib.Core.List.{List}
use native.Mathlib.Omega.{arith}
use lib.ListN.{length}
use borrow.Author.Rules.{rules}
use Rattle.words.specs.Words.{words_of}
use Rattle.words.specs.Laws.{words_length}
use Rattle.plan.specs.declared.Plan.{Plan}
use Rattle.plan.specs.Answer.{is_plan}
use Rattle.plan.specs.Lent.{read_plan}
use Rattle.plan.specs.Scratch.{leads_by}
use Rattle.plan_layout.specs.Layout.{plan_in}
use Rattle.desk_layout.specs.RoundTrip.{plan_in_front}
use Rattle.desk_layout.specs.Sized.{slim_in}
use Rattle.soundness.proofs.has_plan.Statement.{statement}
use Rattle.soundness.proofs.has_plan.Tie as tie

abbrev start : tie.After-overheads-table → tie.Start
start c = c.before.before.before.before

-- the check, with what is lent
abbrev fits : Plan → List ℕ → List ℕ → Bool → Bool
fits p ps ls listed = is_plan p ps (leads_by listed p ls)

-- all of the plan stands in the string
scalars-at-requires : tie.Need-scalars_at-requires
scalars-at-requires c κs = let s = start c in omega (arith, words_length s.args.desk.now, s.requires.0)

numbers-at-requires : tie.Need-numbers_at-requires
numbers-at-requires c κs = let s = start c.before.before in omega (arith, words_length s.args.desk.now, s.requires.0)

is-plan-of-requires : tie.Need-is_plan_of-requires
is-plan-of-requires c κs =
    let o = c in
    let s = start c.before.before.before in
    let w = slim_in s.args.desk.now s.requires.0 in
    (ap length s.requires.1.0 ∙ w.0, ap length s.requires.1.1 ∙ w.1, ap length o.overheads-table.ensures ∙ w.3)

returns : tie.Need-returns
returns c =
    let n = c in
    let m = c in
    let o = c in
    let s = start c.before.before.before.before in
    let a = s.args in
    let front = plan_in_front (words_of a.desk.now) in
    c.is_plan_of.ensures
    ∙ ap (λ (p : Plan). fits p a.positions.now a.leads.now a.listed)
    (read_plan _ _ (plan_in (words_of a.desk.now))
    (s.requires.1.0 ∙ ap (λ (p : Plan). p.figures.positions) front)
    (s.requires.1.1 ∙ ap (λ (p : Plan). p.figures.times) front)
    (o.overheads-table.ensures ∙ ap (λ (p : Plan). p.figures.table) front)
    m.scalars_at.ensures n.numbers_at.ensures
    ∙ sym front)

pub has_plan_spec : {M : Type 1} → statement M
has_plan_spec =
    tie.close
    (tie.spec
    (λ c κs. search rules)
    scalars-at-requires
    numbers-at-requires
    is-plan-of-requires
    returns)
