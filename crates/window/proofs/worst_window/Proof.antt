use Prim.Native.Nat.{ℕ, ◌≤◌, ◌<◌}
use mathlib.Core.Path.{◌≡◌, sym, ap, ◌∙◌, subst}
use mathlib.Core.Bool.{true}
use native.Mathlib.Omega.{arith}
use native.Mathlib.Nat.{mul-le-mul}
use Rattle.numbers.specs.Limits.{max_window}
use Rattle.card.specs.declared.Figures.{Figures}
use Rattle.card.specs.Card.{Legal, total_positions}
use Rattle.legality.specs.Legality.{Wide}
use Rattle.placement.specs.Placement.{Falling}
use Rattle.placement.specs.Showing.{visits_of}
use Rattle.plan.specs.Legal.{legal_zoned, total_zones, legal_falling}
use Rattle.plan.specs.declared.Plan.{Plan}
use Rattle.plan.specs.Plan.{plan_from, showing_in, time_on, longest_of}
use Rattle.plan.specs.Ways.{on_shelf}
use borrow.Author.Rules.{rules}
use borrow.Author.Tests.{not-true, not-false}
use Rattle.window.specs.Window.{is_laid, is_outside}
use Rattle.window.specs.WindowLaws.{found_window, laid_legal}
use Rattle.window.proofs.Ways.{not_laid, out_of_range, answered, in_range}
use Rattle.window.proofs.worst_window.Statement.{statement}
use Rattle.window.proofs.worst_window.Tie as tie

wide : (c : tie.Start) → Wide c.args.plan.figures
wide c = (search rules, search rules, search rules, search rules)

abbrev numbers : tie.After-is_laid_of → tie.After-numbers_in-numbers
numbers c = c.before.before.before.before

abbrev entry : tie.After-numbers_in-numbers → tie.Start
entry c = c.before.before.before

abbrev start : tie.Else-not-is_laid_of → tie.Start
start c = entry (numbers c.before)

-- the test of the plan, of its parts and so of the whole
laid : (c : tie.After-is_laid_of) → (let a = (entry (numbers c)).args in c.is_laid_of.result ≡ is_laid a.plan a.positions.now)
unfolding is_laid
laid c =
    let n = numbers c in
    let a = (entry n).args in
    c.is_laid_of.ensures
    ∙ ap (λ (f : Figures). is_laid (plan_from f n.numbers_in-numbers.result) a.positions.now) n.scalars_in-figures.ensures
    ∙ ap (λ (p : Plan). is_laid p a.positions.now) n.numbers_in-numbers.ensures

-- past 14
is-laid : (c : tie.Else-not-is_laid_of) → (let a = (start c).args in is_laid a.plan a.positions.now ≡ true)
is-laid c = sym (laid c.before) ∙ not-false _ c.if-not-is_laid_of.false-raw

legal : (c : tie.Else-not-is_laid_of) → (let p = (start c).args.plan in Legal (visits_of (showing_in p)) p.figures)
legal c = let s = start c in laid_legal s.args.plan s.args.positions.now (wide s) (is-laid c)

-- the range
abbrev ranged : tie.After-is_outside → tie.Else-not-is_laid_of
ranged c = c.before.before.before

outside : (c : tie.After-is_outside) → (let a = (start (ranged c)).args in c.is_outside.result ≡ is_outside a.count (longest_of a.plan.figures))
unfolding longest_of
outside c = c.is_outside.ensures ∙ ap (is_outside (start (ranged c)).args.count) c.longest-most.ensures

-- past 27
abbrev shelf : tie.Else-is_outside → tie.Else-not-is_laid_of
shelf c = ranged c.before

inside : (c : tie.Else-is_outside) → (let a = (start (shelf c)).args in (0 < a.count) × (a.count ≤ max_window) × (a.count ≤ longest_of a.plan.figures))
inside c = in_range _ _ (sym (outside c.before) ∙ c.if-is_outside.false)

sum : (c : tie.After-sum_positions-total) → (let d = c in c.sum_positions-total.result ≡ total_positions (start (shelf c.before.before)).args.plan.figures)
sum c = let d = c in c.sum_positions-total.ensures ∙ total_zones (start (shelf c.before.before)).args.plan.figures (legal (shelf c.before.before))

is-laid-of-requires : tie.Need-is_laid_of-requires
is-laid-of-requires c κs = let w = wide (entry c.before.before.before) in (w.0, w.1, w.3)

returns : tie.Need-returns-then-not-is_laid_of
returns c = let l = c in
    let a = (entry (numbers c.before.before)).args in
    c.refused.ensures ∙ not_laid a.plan a.positions.now a.count (sym (laid c.before.before) ∙ not-true _ c.if-not-is_laid_of.true-raw)

longest-requires : tie.Need-longest-most-requires
longest-requires c κs = (legal c.before).films.1

returns-2 : tie.Need-returns-then-is_outside
returns-2 c =
    let o = c in
    let a = (start (ranged c.before.before)).args in
    c.refused-then-is_outside.ensures ∙ out_of_range a.plan a.positions.now a.count (is-laid (ranged c.before.before)) (sym (outside c.before.before) ∙ c.if-is_outside.true)

sum-positions-requires : tie.Need-sum_positions-total-requires
sum-positions-requires c κs = let ok = legal (shelf c.before) in (legal_zoned _ ok, ok.zones.1)

worst-of-films-requires : tie.Need-worst_of_films-worst-requires
worst-of-films-requires c κs =
    let t = c in
    let d = c in
    let a = (start (shelf c.before.before.before.before.before)).args in
    let w = inside c.before.before.before.before.before in
    let ok = legal (shelf c.before.before.before.before.before) in
    let falls = subst (λ (n : ℕ). Falling n (time_on a.plan.figures)) (sym (sum c.before.before.before)) (legal_falling a.plan.figures ok) in
    (on_shelf (showing_in a.plan) a.plan.figures ok _ (sum c.before.before.before), falls, w.0, w.1)

abbrev summed : tie.After-worst_of_films-worst → tie.After-sum_positions-total
summed c = c.before.before.before.before

window-bytes-requires : tie.Need-window_bytes-requires
window-bytes-requires c κs = let d = (summed c).before.before.before in
    omega (arith, mul-le-mul (inside (summed c).before.before).1 (legal (shelf (summed c).before.before)).bytes.1)

returns-3 : tie.Need-returns
returns-3 c =
    let r = c in
    let t = summed c.before in
    let d = t.before.before in
    let a = (start (shelf d)).args in
    let w = inside d in
    answered a.plan a.positions.now a.count (is-laid (shelf d)) (sym (outside d.before) ∙ d.if-is_outside.false) _ _ _
    (found_window (showing_in a.plan) a.plan.figures (legal (shelf d)) a.count w.0 w.2 _ _ _ (sum t) r.worst_of_films-worst.ensures)
    c.window_bytes.ensures

pub worst_window_spec : {M : Type 1} → statement M
worst_window_spec =
    tie.close
    (tie.spec
    (λ c κs. search rules)
    (λ c κs. search rules)
    is-laid-of-requires
    (λ c κs. search rules)
    returns
    longest-requires
    (λ c κs. search rules)
    (λ c κs. search rules)
    returns-2
    sum-positions-requires
    worst-of-films-requires
    window-bytes-requires
    returns-3)
