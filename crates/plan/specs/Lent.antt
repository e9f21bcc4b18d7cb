-- A plan of the single numbers and the arrays of a record is that record.
-- Assumes nothing.
use Rattle.std.specs.Prelude.{ℕ, ◌≡◌, List}
use Rattle.std.proofs.Common.{ap, ◌∙◌}
use Rattle.card.specs.declared.Figures.{Figures}
use Rattle.card.specs.declared.Scalars.{Scalars}
use Rattle.card.specs.Read.{figures_from}
use Rattle.plan.specs.declared.Plan.{Plan}
use Rattle.plan.specs.declared.Numbers.{Numbers}
use Rattle.plan.specs.Plan.{plan_from, lent_plan}

pub lent_plan_law : (s : Scalars) (m : Numbers) (p : Plan) → (let f = p.figures in figures_from s f.positions f.times f.table ≡ f)
    → plan_from p.figures m ≡ p
    → lent_plan s p.figures.positions p.figures.times p.figures.table m ≡ p
lent_plan_law s m p e q = ap (λ (f : Figures). plan_from f m) e ∙ q

-- so is one of arrays that were read of it
pub read_plan : (s : Scalars) (m : Numbers) (p : Plan) {ps ts os : List ℕ} → ps ≡ p.figures.positions → ts ≡ p.figures.times → os ≡ p.figures.table
    → (let f = p.figures in figures_from s f.positions f.times f.table ≡ f) → plan_from p.figures m ≡ p → lent_plan s ps ts os m ≡ p
read_plan s m p a b c e q = (λ i. lent_plan s (a i) (b i) (c i) m) ∙ lent_plan_law s m p e q
