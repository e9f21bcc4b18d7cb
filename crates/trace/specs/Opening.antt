-- An accepted opening: its plan is the plan of legal figures, so that the planner's promise holds and every list is safe.
-- Assumes nothing.
use Rattle.std.specs.Prelude.{ℕ, ◌≡◌, refl, Bool, true, false, not, List}
use Rattle.std.proofs.Common.{sym, ap, subst, arith}
use Rattle.laws.specs.Bools.{and_right}
use Rattle.legality.specs.Legality.{Wide}
use Rattle.plan.specs.declared.Plan.{Plan}
use Rattle.plan.specs.Plan.{showing_in}
use Rattle.plan.specs.Answer.{is_plan}
use Rattle.plan.proofs.Check.{checked, checked_legal}
use Rattle.plan.specs.Scratch.{scratch_short}
use Rattle.rules.specs.Supply.{Lawful}
use Rattle.rules.specs.Order.{Scheduler}
use Rattle.rules.specs.Refusals.{Verdict, verdict}
use Rattle.turns.specs.Rows.{row_unfair}
use Rattle.rules.specs.Calls.{Given}
use Rattle.desk.specs.Desk.{supply_of, rules_of, order_of, Queue, open_by, open_desk}
use Rattle.desk.specs.Scratch.{plan_leads}
use Rattle.desk.specs.Promise.{plan_lawful}
use Rattle.trace.specs.List.{fair_to}
use Rattle.rules.specs.Calls as C
use Rattle.safety.specs.Claim as K

-- a record that passes the check has a lawful supply
pub checked_lawful : (p : Plan) (ps ls : List ℕ) → Wide p.figures → is_plan p ps ls ≡ true → Lawful (supply_of p)
checked_lawful p ps ls w e =
    let c = checked p ps ls e in
    subst (λ (q : Plan). Lawful (supply_of q)) (sym c.plan) (plan_lawful (showing_in p) p.figures (checked_legal p ps ls w e) c.fed)

-- an opening is accepted where the check is passed
pub opened_checked : (p : Plan) (ps ls : List ℕ) → (open_desk p ps ls).verdict.number ≡ 0 → is_plan p ps ls ≡ true
unfolding open_desk
opened_checked p ps ls e = go (is_plan p ps ls) e
  where
    go : (t : Bool) → (open_by t p).verdict.number ≡ 0 → t ≡ true
    go true e = refl
    go false e = absurd (omega arith)

-- a call is accepted only with the plan's own lists
pub fair_of : (p : Plan) (s : Scheduler ℕ Queue) (g : Given ℕ) → ((rules_of p).verdict s g).number ≡ 0 → g.fair ≡ true
unfolding C.refusals
fair_of p s g e = go g.fair e
  where
    go : (t : Bool) → (verdict (supply_of p) (order_of p) s t g.room g.call).number ≡ 0 → t ≡ true
    go true e = refl
    go false e = absurd (omega (arith, ap (λ (v : Verdict). v.number) (row_unfair (supply_of p) (order_of p) s g.room g.call)))

-- and then the plan is one
pub fair_lawful : (p : Plan) (listed : Bool) (ps ls : List ℕ) → Wide p.figures → fair_to p listed ps ls ≡ true → Lawful (supply_of p)
fair_lawful p true ps ls w f = checked_lawful p ps ls w f
fair_lawful p false ps ls w f = checked_lawful p ps (plan_leads p) w (and_right (not (scratch_short ls)) _ f)
