use Prim.Native.Nat.{◌≤◌}
use mathlib.Core.Path.{◌≡◌, sym, ap, ◌∙◌}
use native.Mathlib.Omega.{arith}
use lib.ListN.{length}
use borrow.Author.Rules.{rules}
use borrow.Author.Tests.{not-true, not-false}
use Rattle.words.specs.Words.{words_of}
use Rattle.words.specs.Laws.{words_length}
use Rattle.plan.specs.declared.Plan.{Plan}
use Rattle.desk.specs.Desk.{fresh_desk}
use Rattle.plan.specs.Plan.{lent_plan}
use Rattle.plan.specs.Answer.{is_plan}
use Rattle.plan.specs.Scratch.{leads_by}
use Rattle.desk.specs.Records.{answers}
use Rattle.plan.specs.Lent.{read_plan}
use Rattle.plan_layout.specs.Layout.{plan_in, plan_word_count}
use Rattle.desk_calls.specs.Calls.{opened_from}
use Rattle.desk_calls.specs.Inner.{plan_by}
use Rattle.open_strings.proofs.Opens.{opened_unfit, opened_fit, open_refused, open_unwritten, open_written}
use Rattle.open_strings.proofs.open_plan.Statement.{statement}
use Rattle.open_strings.proofs.open_plan.Tie as tie

-- ---- the places, each from a later one

abbrev known : tie.After-table_at-table → tie.After-slice_known-1
known c = c.before.before.before.before.before

abbrev first : tie.After-slice_known-1 → tie.Start
first c = c.before.before.before.before

abbrev start : tie.After-table_at-table → tie.Start
start c = first (known c)

abbrev read : tie.After-is_plan_of → tie.After-table_at-table
read c = c.before.before.before.before

-- ---- what is known there

-- all of the plan stands in the string
whole : (s : tie.Start) → plan_word_count ≤ length (words_of s.args.plan.now)
whole s = omega (arith, words_length s.args.plan.now, s.requires)

-- the plan of what was read
abbrev given : tie.After-table_at-table → Plan
given c = let t = c in
    let z = c in
    let n = c in
    lent_plan n.scalars_at-figures.result z.sizes_at-sizes.result t.times_at-times.result c.table_at-table.result n.numbers_at-numbers.result

said : (c : tie.After-table_at-table) → given c ≡ plan_in (words_of (start c).args.plan.now)
said c = let t = c in
    let z = c in
    let n = c in
    read_plan _ _ (plan_in (words_of (start c).args.plan.now)) z.sizes_at-sizes.ensures t.times_at-times.ensures c.table_at-table.ensures
    n.scalars_at-figures.ensures n.numbers_at-numbers.ensures

-- the check, with the lead list that it goes by
checked : (c : tie.After-is_plan_of) → (let t = read c in
    let a = (start t).args in
    c.is_plan_of.result ≡ is_plan (given t) a.positions.now (plan_by a.listed a.plan.now a.leads.now))
checked c =
    let t = read c in
    let a = (start t).args in
    c.is_plan_of.ensures ∙ ap (λ (p : Plan). is_plan (given t) a.positions.now (leads_by a.listed p a.leads.now)) (said t)

-- it is a plan
fit : (c : tie.Else-not-is_plan_of) → (let t = read c.before in
    let a = (start t).args in
    opened_from a.plan.now a.positions.now (plan_by a.listed a.plan.now a.leads.now) ≡ answers (fresh_desk (given t)) 0 0)
fit c = let t = read c.before in
    opened_fit _ _ _ (start t).requires (given t) (said t) (sym (checked c.before) ∙ not-false _ c.if-not-is_plan_of.false-raw)

-- ---- the needs

returns : tie.Need-returns-then-not-is_plan_of
returns c =
    let r = c in
    let e = c in
    let t = read c.before.before.before.before.before in
    let unfit = opened_unfit _ _ _ (start t).requires (given t) (said t) (sym (checked c.before.before.before.before.before) ∙ not-true _ e.if-not-is_plan_of.true-raw) in
    open_refused _ _ _ _ _ unfit _ r.refuse_open.ensures

returns-2 : tie.Need-returns-then-desk-ne-DESK_BYTES
returns-2 c = let t = c in open_unwritten _ _ _ _ _ _ (fit c.before.before) t.if-desk-ne-DESK_BYTES.true c.number_answer.ensures

returns-3 : tie.Need-returns
returns-3 c =
    let w = c in
    let e = c in
    open_written _ _ _ _ _ _ (fit c.before.before.before.before.before.before.before.before.before) e.if-desk-ne-DESK_BYTES.false c.number_answer-2.ensures _ w.write_fresh.ensures

pub open_plan_spec : {M : Type 1} → statement M
open_plan_spec =
    tie.close
    (tie.spec
    (λ c κs. whole (first c))
    (λ c κs. whole (first c.before))
    (λ c κs. whole (first c.before.before))
    (λ c κs. whole (first c.before.before.before))
    (λ c κs. whole (first c.before.before.before.before))
    (λ c κs. search rules)
    (λ c κs. search rules)
    (λ c. search rules)
    returns
    (λ c κs. search rules)
    returns-2
    (λ c κs. search rules)
    (λ c κs. search rules)
    (λ c. search rules)
    returns-3)
