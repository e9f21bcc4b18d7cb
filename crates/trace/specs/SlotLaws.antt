-- A record that the rules give has their slots in its three arrays.
-- Assumes nothing.
use Rattle.std.specs.Prelude.{ℕ, ◌≡◌, get_or}
use Rattle.std.proofs.Math.ListN.{get_or-map}
use Rattle.plan.specs.declared.Plan.{Plan}
use Rattle.rules.specs.Scheduler.{free_slot, at}
use Rattle.rules.specs.Order.{Scheduler}
use Rattle.desk.specs.Desk.{supply_of, Queue, desk_of}

module _ (q : Plan) (s : Scheduler ℕ Queue) where
  pub kind_at : (i : ℕ) → get_or (desk_of q s).kinds i 0 ≡ (at (supply_of q) s.slots i).kind
  unfolding desk_of
  kind_at i = get_or-map (λ x. x.kind) s.slots i (free_slot (supply_of q))

  pub held_at : (i : ℕ) → get_or (desk_of q s).held i 0 ≡ (at (supply_of q) s.slots i).buffered
  unfolding desk_of
  held_at i = get_or-map (λ x. x.buffered) s.slots i (free_slot (supply_of q))

  pub next_at_law : (i : ℕ) → get_or (desk_of q s).next i 0 ≡ (at (supply_of q) s.slots i).next
  unfolding desk_of supply_of
  next_at_law i = get_or-map (λ x. x.next) s.slots i (free_slot (supply_of q))
