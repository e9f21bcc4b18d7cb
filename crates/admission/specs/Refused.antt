-- A call that is refused answers the desk that it was given, and no entries.
-- Assumes nothing.
use Prim.Native.Nat.{ℕ, zero, suc, ◌<◌}
use Rattle.std.specs.Prelude.{◌≡◌, refl}
use Rattle.std.proofs.Common.{ap, ◌∙◌, arith}
use mathlib.Core.List.{List, []}
use Rattle.plan.specs.Answer.{is_plan}
use Rattle.rules.specs.Scheduler.{Call}
use Rattle.rules.specs.Calls as C
use Rattle.rules.specs.Calls.{State}
use Rattle.turns.specs.Answers.{refused_changes_nothing}
use Rattle.desk.specs.declared.Desk.{Desk}
use Rattle.desk.specs.Desk.{supply_of, rules_of, order_of, Queue, view_of, desk_of, answer_of}
use Rattle.desk.specs.View.{Wide, desk_of_view}

above_zero : (k : ℕ) → (k ≡ 0 → ⊥) → 0 < k
above_zero zero h = absurd (h refl)
above_zero (suc k) h = omega arith

module _ (d : Desk) (ps ls : List ℕ) (room : ℕ) (call : Call ℕ) where
  pub refused_same : ((answer_of d ps ls room call).number ≡ 0 → ⊥) → ((answer_of d ps ls room call).scheduler ≡ view_of d)
      × ((answer_of d ps ls room call).entries ≡ [])
  unfolding answer_of C.turn
  refused_same n =
      let s = supply_of d.plan in
      let r =
      refused_changes_nothing s (order_of d.plan) (rules_of d.plan) (record { scheduler = view_of d; ledger = [] })
      (record { call = call; fair = is_plan d.plan ps ls; room = room }) (above_zero _ n) in
      (ap (λ (v : State ℕ Queue). v.scheduler) r.0, r.1)

  pub refused_desk : Wide d → ((answer_of d ps ls room call).number ≡ 0 → ⊥) → desk_of d.plan (answer_of d ps ls room call).scheduler ≡ d
  refused_desk w n = ap (desk_of d.plan) (refused_same n).0 ∙ desk_of_view d w
