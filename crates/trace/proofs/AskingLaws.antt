-- Places follow the order of asking, and while a slot asks there is an eldest: the rules' laws, carried to the calls on a record.
-- Assumes nothing.
use Prim.Native.Nat.{ℕ, ◌<◌}
use Rattle.std.specs.Prelude.{◌≡◌, true}
use Rattle.std.proofs.Common.{sym, ◌∙◌, arith}
use Rattle.std.proofs.Math.Path.{subst}
use mathlib.Core.List.{List, ◌∷◌, map, map-append}
use Rattle.std.proofs.Math.ListN.{get_or}
use Rattle.legality.specs.Legality.{Wide}
use Rattle.plan.specs.declared.Plan.{Plan}
use Rattle.plan.specs.Answer.{is_plan}
use Rattle.rules.specs.Supply.{Lawful}
use Rattle.rules.specs.Calls.{Given, is_accepted}
use Rattle.turns.specs.Facts.{sound_says}
use Rattle.turns.specs.ByPlace.{queue_places}
use Rattle.turns.specs.Ranks.{place_held}
use Rattle.turns.specs.Answers.{after_append}
use Rattle.safety.specs.Asking.{asked_before}
use Rattle.desk.specs.Desk.{supply_of, order_of, rules_of, desk_of, open_desk}
use Rattle.desk.specs.Promise.{supply_named}
use Rattle.trace.specs.Safe.{Seen, on_record}
use Rattle.trace.specs.SafeLists.{seen_as, accepted_zero, given_of, on_rules, numbered_by_rules}
use Rattle.trace.proofs.SafeLists.{accepted_same, seen_same}
use Rattle.trace.specs.SlotLaws.{kind_at}
use Rattle.trace.specs.Opening.{checked_lawful, opened_checked}
use Rattle.trace.specs.Wait.{place_at, InAskingOrder}
use Rattle.trace.specs.WaitLaws.{renumbered, strict, state_after}
use Rattle.trace.proofs.WaitLaws.{stays_as, stays_back, stays_ruled}
use Rattle.rules.specs.Calls as C
use Rattle.safety.specs.Claim as K

-- calls of another type, seen as these
pub ordered_as : {X Y : Type 0} (g : X → Y) (v : Seen Y) → InAskingOrder v → InAskingOrder (seen_as g v)
ordered_as g v h = record {
  order = λ xs ys x i j b k m a s t.
      subst (λ l. place_at v l i < place_at v l j) (sym (map-append g xs (x ∷ ys)))
      (h.order (map g xs) (map g ys) (g x) i j b k m a (stays_as g v (x ∷ ys) xs i s) (stays_as g v (x ∷ ys) xs j t));
  eldest = λ xs. h.eldest (map g xs);
}

-- other numbers, which accept the same calls
ordered_renumbered : {X : Type 0} (v : Seen X) (number : List X → X → ℕ)
    (same : (xs : List X) (x : X) → is_accepted (number xs x) ≡ is_accepted (v.number xs x)) → InAskingOrder v → InAskingOrder (renumbered v number same)
ordered_renumbered v number same h = record {
  order = λ xs ys x i j b k m a s t.
      h.order xs ys x i j b k m (accepted_zero _ _ (same xs x) a) (stays_back v number same (x ∷ ys) xs i s) (stays_back v number same (x ∷ ys) xs j t);
  eldest = h.eldest;
}

module _ (p : Plan) (ok : Lawful (supply_of p)) where
  -- the rules
  rules_ordered : InAskingOrder (on_rules p)
  unfolding desk_of C.refusals
  rules_ordered = record {
    order = λ xs ys x i j b k m a s t.
        subst (λ (v : C.State ℕ (List ℕ)). get_or v.scheduler.queue i 0 < get_or v.scheduler.queue j 0)
        (sym (after_append (supply_of p) (order_of p) (rules_of p) (C.opening (supply_of p) (order_of p)) xs (x ∷ ys)))
        (asked_before (supply_of p) ok (rules_of p) (strict p ok) xs ys x i j b (sym (kind_at p (state_after p ok xs).scheduler i) ∙ k) m a
        (stays_ruled p ok (x ∷ ys) xs i s) (stays_ruled p ok (x ∷ ys) xs j t));
    eldest = λ xs i k.
        let d = (state_after p ok xs).scheduler in
        let places = queue_places (supply_of p) d.queue d.slots (sound xs) in
        let some = places.named i (sym (kind_at p d i) ∙ k) in
        let (j, u, e) = place_held (supply_of p) d.slots d.queue places 1 (omega arith) (omega (arith, some, places.low i)) in
        (j, e);
  }
    where
      sound : (xs : List (Given ℕ)) → (let d = (state_after p ok xs).scheduler in (order_of p).queue_sound d.queue d.slots ≡ true)
      sound xs =
          (sound_says (supply_of p) (supply_named p) (order_of p) (state_after p ok xs).scheduler
          (K.every_list_safe (supply_of p) ok (supply_named p) xs).stays_sound).queue

  -- and the calls on a record
  pub list_ordered : InAskingOrder (on_record p)
  list_ordered =
      ordered_renumbered (numbered_by_rules p) (on_record p).number (accepted_same p)
      (subst InAskingOrder (sym (seen_same p)) (ordered_as (given_of p) (on_rules p) rules_ordered))

pub checked_ordered : (p : Plan) (ps ls : List ℕ) → Wide p.figures → is_plan p ps ls ≡ true → InAskingOrder (on_record p)
checked_ordered p ps ls w e = list_ordered p (checked_lawful p ps ls w e)

pub opening_ordered : (p : Plan) (ps ls : List ℕ) → Wide p.figures → (open_desk p ps ls).verdict.number ≡ 0 → InAskingOrder (on_record p)
opening_ordered p ps ls w e = checked_ordered p ps ls w (opened_checked p ps ls e)
