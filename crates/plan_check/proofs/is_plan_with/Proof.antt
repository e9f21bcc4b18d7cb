use mathlib.Core.Path.{◌≡◌, sym, ap, ap₂, ◌∙◌}
use mathlib.Core.Bool.{true, false, ◌&&◌, and-true}
use mathlib.Core.List.{List}
use Prim.Native.Nat.{ℕ}
use borrow.Author.Tests.{not-true, not-false}
use Rattle.words.specs.Words.{words_of}
use Rattle.card.specs.Card.{total_positions}
use Rattle.legality.specs.Legality.{Wide}
use Rattle.plan.specs.declared.Plan.{Plan}
use Rattle.plan.specs.Legal.{legal_zoned, total_zones}
use Rattle.plan.specs.Plan.{showing_in, lent_plan}
use Rattle.plan.specs.Answer.{begins, has_numbers, has_positions, has_leads}
use Rattle.plan.specs.Check.{Numbered}
use Rattle.plan.proofs.Check.{numbered}
use Rattle.plan.specs.Ways.{plan_worst2, shelved, on_shelf, positions_are}
use Rattle.plan.proofs.Ways.{leads_are}
use borrow.Author.Rules.{rules}
use Rattle.plan_check.proofs.is_plan_with.Statement.{statement}
use Rattle.plan_check.proofs.is_plan_with.Tie as tie

-- the plan that is lent
abbrev given : tie.Start → Plan
given c = let a = c.args in lent_plan a.figures a.sizes.now a.times.now a.table.now a.plan

-- its arrays have their entries
wide : (c : tie.Start) → Wide (given c).figures
wide c = (c.requires.0, c.requires.1, search rules, c.requires.2)

abbrev start : (c : tie.Else-not-has_numbers) → tie.Start
start c = c.before.before.before.before

passed : (c : tie.Else-not-has_numbers) → has_numbers (given (start c)) ≡ true
passed c = sym c.has_numbers.ensures ∙ not-false _ c.if-not-has_numbers.false-raw

has : (c : tie.Else-not-has_numbers) → Numbered (given (start c))
has c = numbered (given (start c)) (wide (start c)) (passed c)

abbrev first : (c : tie.After-sum_positions-total) → tie.Else-not-has_numbers
first c = c.before.before

sum : (c : tie.After-sum_positions-total) → c.sum_positions-total.result ≡ total_positions (given (start (first c))).figures
sum c = c.sum_positions-total.ensures ∙ total_zones (given (start (first c))).figures (has (first c)).legal

abbrev summed : (c : tie.After-same_shelf_positions-placed) → tie.After-sum_positions-total
summed c = c.before.before

-- the positions
placed : (c : tie.After-same_shelf_positions-placed)
    → (let s = start (first (summed c)) in c.same_shelf_positions-placed.result ≡ has_positions (given s) s.args.positions.now)
unfolding has_positions
placed c = let t = summed c in
    let s = start (first t) in
    let p = given s in
    c.same_shelf_positions-placed.ensures
    ∙ ap (λ (x : List ℕ). begins x (words_of s.args.positions.now)) (positions_are (showing_in p) p.figures (has (first t)).legal _ (sum t))

has-numbers-requires : tie.Need-has_numbers-requires
has-numbers-requires c κs = c.requires

returns : tie.Need-returns-then-not-has_numbers
returns c = let e : has_numbers (given c.before.before.before.before) ≡ false = sym c.has_numbers.ensures ∙ not-true _ c.if-not-has_numbers.true-raw in rw e

sum-positions-requires : tie.Need-sum_positions-total-requires
sum-positions-requires c κs = let ok = (has c.before).legal in (legal_zoned _ ok, ok.zones.1)

same-shelf-positions-requires : tie.Need-same_shelf_positions-placed-requires
same-shelf-positions-requires c κs = let t = c in
    let p = given (start (first c.before)) in
    shelved (showing_in p) p.figures (has (first c.before)).legal _ (sum c.before)

returns-2 : tie.Need-returns-then-not-asked
returns-2 c = let d = first (summed c.before) in
    rw (passed d, not-true (start d).args.asked c.if-not-asked.true-raw) (placed c.before ∙ sym (and-true _))

same-shelf-leads-requires : tie.Need-same_shelf_leads-led-requires
same-shelf-leads-requires c κs = let t = summed c.before.before in
    let p = given (start (first t)) in
    on_shelf (showing_in p) p.figures (has (first t)).legal _ (sum t)

returns-3 : tie.Need-returns
unfolding has_leads
returns-3 c = let e = c in
    let t = summed c.before.before.before.before in
    let d = first t in
    let a = (start d).args in
    let p = given (start d) in
    rw (passed d, not-false a.asked e.if-not-asked.false-raw)
    (c.both.ensures
    ∙ ap₂ ◌&&◌ (placed c.before.before.before.before)
    (c.same_shelf_leads-led.ensures
    ∙ ap (λ (x : List ℕ). begins x (words_of a.leads.now))
    (leads_are (showing_in p) p.figures (has d).legal _ (sum t) _ (plan_worst2 (showing_in p) p.figures p (has d).plan))))

pub is_plan_with_spec : {M : Type 1} → statement M
is_plan_with_spec =
    tie.close
    (tie.spec
    has-numbers-requires
    returns
    sum-positions-requires
    same-shelf-positions-requires
    returns-2
    same-shelf-leads-requires
    (λ c κs. search rules)
    returns-3)
