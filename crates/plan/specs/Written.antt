-- The leads of a plan, written into a list by the code.
-- Assumes nothing.
use Rattle.std.specs.Prelude.{ℕ, ◌≡◌, List}
use Rattle.card.specs.declared.Figures.{Figures}
use Rattle.card.specs.Card.{Legal, total_positions}
use Rattle.placement.specs.Showing.{Showing, visits_of}
use Rattle.plan.specs.Disk.{OnShelf}
use Rattle.plan.specs.Ways.{on_shelf}

-- the films of legal figures that were read, as the code walks them
pub read_on : (x : Showing) (f : Figures) → Legal (visits_of x) f → {sizes times blocks : List ℕ} {t n : ℕ} → sizes ≡ f.positions → times ≡ f.times
    → blocks ≡ f.blocks → t ≡ total_positions f → n ≡ f.films → OnShelf sizes times x t blocks n
read_on x f ok a b k d n = rw (a, b, k, n) (on_shelf x f ok _ d)
