-- What safety relies on of the rules: they accept nothing but what is allowed.
-- Assumes nothing.
use Rattle.std.specs.Prelude.{◌≡◌}
use Rattle.rules.specs.Supply.{Supply}
use Rattle.rules.specs.Order.{Scheduler, Order}
use Rattle.rules.specs.Calls.{Rules, Allowed}

module _ {A Q : Type 0} (p : Supply A) (o : Order A Q) where
  pub record Strict {X : Type 0} (u : Rules A Q X) : Type 0 where
    pub strict : (d : Scheduler A Q) (x : X) → (u.verdict d x).number ≡ 0 → Allowed p o d (u.move x)
