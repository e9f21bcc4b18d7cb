-- Joins and leaves keep the plan of a desk.
-- Assumes nothing.
use Rattle.std.specs.Prelude.{ℕ, ◌≡◌, refl, Bool, true, false, cond, List, [], ◌∷◌, eqb}
use Rattle.std.proofs.Common.{◌∙◌}
use Rattle.desk.specs.declared.Desk.{Desk}
use Rattle.desk.specs.Desk.{answered, desk_of, join_desk, leave_desk}
use Rattle.desk.specs.Batch.{Item, item_desk, singly_desk, batch_taken, batch_desk, items_in}

pub item_plan : (d : Desk) (ps ls : List ℕ) (t : Item) → (item_desk d ps ls t).desk.plan ≡ d.plan
unfolding item_desk join_desk leave_desk answered desk_of
item_plan d ps ls t = go (eqb t.number 0)
  where
    go : (x : Bool) → (cond x (join_desk d ps ls t.slot t.block t.film) (leave_desk d ps ls t.slot)).desk.plan ≡ d.plan
    go true = refl
    go false = refl

pub singly_plan : (d : Desk) (ps ls : List ℕ) (ts : List Item) → (singly_desk d ps ls ts).plan ≡ d.plan
unfolding singly_desk
singly_plan d ps ls [] = refl
singly_plan d ps ls (t ∷ ts) = singly_plan (item_desk d ps ls t).desk ps ls ts ∙ item_plan d ps ls t

pub batch_plan : (d : Desk) (ps ls I A : List ℕ) → (batch_desk d ps ls I A).plan ≡ d.plan
unfolding batch_desk
batch_plan d ps ls I A = go (batch_taken d ps ls I A)
  where
    go : (x : Bool) → (cond x (singly_desk d ps ls (items_in I)) d).plan ≡ d.plan
    go true = singly_plan d ps ls (items_in I)
    go false = refl
