-- What is printed of a plan.
use Rattle.std.specs.Prelude.{◌≡◌, ℕ, List, true}
use Rattle.std.specs.Borrow.{Bor}
use Rattle.card.specs.Card.{Legal}
use Rattle.placement.specs.Showing.{visits_of}
use Rattle.plan.specs.declared.Plan.{Plan}
use Rattle.plan.specs.Plan.{showing_in}
use Rattle.plan.specs.Answer.{is_plan}

-- a call that takes each plan of legal figures, with its lists
abbrev pub TakesPlans : (Plan → Bor (List ℕ) → Bor (List ℕ) → Type 0) → Type 0
TakesPlans takes =
    (plan : Plan) (positions leads : Bor (List ℕ)) → is_plan plan positions.now leads.now ≡ true → Legal (visits_of (showing_in plan)) plan.figures
    → takes plan positions leads
