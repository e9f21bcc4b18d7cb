-- Laws of what specs/WaitLaws defines.
use Prim.Native.Nat.{ℕ, zero, ◌+◌, ◌*◌, ◌-◌, ◌≤◌, min}
use Rattle.std.specs.Prelude.{◌≡◌, true, ◌&&◌, get_or}
use Rattle.std.proofs.Math.Path.{refl, ap}
use Rattle.std.proofs.Common.{sym, ◌∙◌, subst, arith, mul-le-mul_left}
use mathlib.Core.List.{List, [], ◌∷◌, ◌++◌, map, map-append}
use Rattle.laws.specs.Bools.{bit}
use Rattle.numbers.specs.Slots.{waiting}
use Rattle.card.specs.declared.Figures.{Figures}
use Rattle.card.specs.Card.{Legal}
use Rattle.legality.specs.Legality.{Wide}
use Rattle.placement.specs.Showing.{Showing, visits_of}
use Rattle.plan.specs.declared.Plan.{Plan}
use Rattle.plan.specs.Plan.{showing_in, worst2_of, plan_of}
use Rattle.plan.specs.Answer.{is_plan}
use Rattle.plan.proofs.Legal.{margin_less}
use Rattle.plan.proofs.Check.{checked, checked_legal}
use Rattle.rules.specs.Supply.{Lawful}
use Rattle.rules.specs.Scheduler.{at}
use Rattle.rules.specs.Calls.{Given, is_accepted, is_end_call}
use Rattle.turns.specs.Strict.{Strict}
use Rattle.turns.specs.Answers.{after_append, after_last, answer_number}
use Rattle.safety.specs.Gain.{gain}
use Rattle.desk.specs.Desk.{supply_of, order_of, rules_of, desk_of, open_desk}
use Rattle.trace.specs.List.{Lent}
use Rattle.trace.specs.Safe.{Seen, on_record}
use Rattle.trace.specs.SafeLists.{seen_as, accepted_zero, given_of, on_rules, numbered_by_rules}
use Rattle.trace.proofs.SafeLists.{accepted_same, seen_same}
use Rattle.trace.specs.SlotLaws.{kind_at}
use Rattle.trace.specs.Opening.{checked_lawful, opened_checked}
use Rattle.trace.specs.Wait.{sweep_gain, IsLeast, Asks, Stays, finishes, finished, InTime}
use Rattle.trace.specs.WaitLaws.{one_more as one_more_in_specs, renumbered as renumbered_in_specs, strict as strict_in_specs, state_after as state_after_in_specs, least_within}
use Rattle.rules.specs.Calls as C
use Rattle.safety.specs.Claim as K
use Rattle.safety.specs.Wait as W

-- ---- calls of another type, seen as these

module _ {X Y : Type 0} (g : X → Y) (v : Seen Y) where
  abbrev one_more : (xs : List X) (y : X) → map g (xs ++ (y ∷ [])) ≡ map g xs ++ (g y ∷ [])
  one_more = one_more_in_specs {X = X} {Y = Y} g v

  pub stays_as : (ys xs : List X) (i : ℕ) → Stays (seen_as g v) i xs ys → Stays v i (map g xs) (map g ys)
  stays_as [] xs i s = tt
  stays_as (y ∷ ys) xs i s =
      let e = one_more xs y in
      subst (λ (l : List Y). Asks v l i × Stays v i l (map g ys)) e (s.0, stays_as ys (xs ++ (y ∷ [])) i s.1)

  finished_as : (ys xs : List X) → finished (seen_as g v) xs ys ≡ finished v (map g xs) (map g ys)
  unfolding finished
  finished_as [] xs = refl
  finished_as (y ∷ ys) xs =
      ap (λ (n : ℕ). bit (finishes v (map g xs) (g y)) + n)
      (finished_as ys (xs ++ (y ∷ [])) ∙ ap (λ (l : List Y). finished v l (map g ys)) (one_more xs y))

  pub in_time_as : (G : ℕ) → InTime v G → InTime (seen_as g v) G
  in_time_as G h xs ys i f s n x m a =
      let e = map-append g xs ys in
      let accepted = ap (λ (l : List Y). v.number l (g x)) (sym e) ∙ a in
      let r = h (map g xs) (map g ys) i f (stays_as ys xs i s) (omega (arith, finished_as ys xs)) (g x) m accepted in
      ap (λ (l : List Y). get_or (v.desk l).kinds i 0) (one_more (xs ++ ys) x ∙ ap (λ (l : List Y). l ++ (g x ∷ [])) e) ∙ r

-- ---- other numbers, which accept the same calls

module _ {X : Type 0} (v : Seen X) (number : List X → X → ℕ) (same : (xs : List X) (x : X) → is_accepted (number xs x) ≡ is_accepted (v.number xs x)) where
  abbrev renumbered : Seen X
  renumbered = renumbered_in_specs {X = X} v number same

  pub stays_back : (ys xs : List X) (i : ℕ) → Stays renumbered i xs ys → Stays v i xs ys
  stays_back [] xs i s = tt
  stays_back (y ∷ ys) xs i s = (s.0, stays_back ys (xs ++ (y ∷ [])) i s.1)

  finished_back : (ys xs : List X) → finished renumbered xs ys ≡ finished v xs ys
  unfolding finished
  finished_back [] xs = refl
  finished_back (y ∷ ys) xs = let a = same xs y in let r = finished_back ys (xs ++ (y ∷ [])) in λ t. bit (a t && is_end_call (v.move y)) + r t

  in_time_renumbered : (G : ℕ) → InTime v G → InTime renumbered G
  in_time_renumbered G h xs ys i f s n x m a =
      h xs ys i f (stays_back ys xs i s) (omega (arith, finished_back ys xs)) x m (accepted_zero _ _ (same (xs ++ ys) x) a)

-- ---- the rules

module _ (p : Plan) (ok : Lawful (supply_of p)) where
  abbrev strict : Strict (supply_of p) (order_of p) (rules_of p)
  strict = strict_in_specs p ok

  abbrev state_after : List (Given ℕ) → C.State ℕ (List ℕ)
  state_after = state_after_in_specs p ok

  next_state : (gs : List (Given ℕ)) (g : Given ℕ) → state_after (gs ++ (g ∷ [])) ≡ C.turn (supply_of p) (order_of p) (rules_of p) (state_after gs) g
  next_state gs g = after_last (supply_of p) (order_of p) (rules_of p) (C.opening (supply_of p) (order_of p)) gs g

  pub stays_ruled : (ys xs : List (Given ℕ)) (i : ℕ) → Stays (on_rules p) i xs ys → W.Stays (supply_of p) (rules_of p) i (state_after xs) ys
  stays_ruled [] xs i s = tt
  stays_ruled (y ∷ ys) xs i s =
      subst (λ (v : C.State ℕ (List ℕ)). ((at (supply_of p) v.scheduler.slots i).kind ≡ waiting) × W.Stays (supply_of p) (rules_of p) i v ys)
      (next_state xs y) (sym (kind_at p (state_after (xs ++ (y ∷ []))).scheduler i) ∙ s.0, stays_ruled ys (xs ++ (y ∷ [])) i s.1)

  finished_ruled : (ys xs : List (Given ℕ)) → finished (on_rules p) xs ys ≡ W.sweeps (supply_of p) (rules_of p) (state_after xs) ys
  unfolding finished W.sweeps W.finishes C.refusals
  finished_ruled [] xs = refl
  finished_ruled (y ∷ ys) xs =
      let a = answer_number (supply_of p) (order_of p) (rules_of p) (state_after xs).scheduler y in
      let r = finished_ruled ys (xs ++ (y ∷ [])) ∙ ap (λ (v : C.State ℕ (List ℕ)). W.sweeps (supply_of p) (rules_of p) v ys) (next_state xs y) in
      λ t. bit (is_accepted (a t) && is_end_call y.call) + r t

  rules_in_time : (G : ℕ) → p.margin ≤ G * gain (supply_of p) → InTime (on_rules p) G
  unfolding supply_of desk_of C.turn C.refusals
  rules_in_time G big xs ys i f s n x m a =
      let e = after_append (supply_of p) (order_of p) (rules_of p) (C.opening (supply_of p) (order_of p)) xs ys in
      let answered : C.State ℕ (List ℕ) → C.Answer ℕ (List ℕ) = λ v. C.answer (supply_of p) (order_of p) (rules_of p) v.scheduler x in
      let r =
      W.granted_by (supply_of p) ok (rules_of p) strict G big xs ys i f (stays_ruled ys xs i s) (omega (arith, finished_ruled ys xs)) x m
      (ap (λ (v : C.State ℕ (List ℕ)). (answered v).number) (sym e) ∙ a) in
      kind_at p (state_after ((xs ++ ys) ++ (x ∷ []))).scheduler i
      ∙ ap (λ (v : C.State ℕ (List ℕ)). (at (supply_of p) v.scheduler.slots i).kind) (next_state (xs ++ ys) x)
      ∙ ap (λ (v : C.State ℕ (List ℕ)). (at (supply_of p) (answered v).scheduler.slots i).kind) e ∙ r

  -- and the calls on a record
  pub list_in_time : (G : ℕ) → p.margin ≤ G * gain (supply_of p) → InTime (on_record p) G
  list_in_time G big =
      in_time_renumbered (numbered_by_rules p) (on_record p).number (accepted_same p) G
      (subst (λ (v : Seen Lent). InTime v G) (sym (seen_same p)) (in_time_as (given_of p) (on_rules p) G (rules_in_time G big)))

-- ---- an accepted opening

-- a record that passes the check says the worst time of its film
pub checked_in_time : (p : Plan) (ps ls : List ℕ) → Wide p.figures → is_plan p ps ls ≡ true → (G : ℕ) → IsLeast p G → InTime (on_record p) G
unfolding gain sweep_gain supply_of plan_of
checked_in_time p ps ls w e G h = list_in_time p (checked_lawful p ps ls w e) G (omega (arith, h.enough, mul-le-mul_left G within))
  where
    same : p.worst2 ≡ worst2_of (showing_in p) p.figures
    same = ap (λ (q : Plan). q.worst2) (checked p ps ls e).plan

    within : sweep_gain p ≤ gain (supply_of p)
    within = omega (arith, same)

pub opening_in_time : (p : Plan) (ps ls : List ℕ) → Wide p.figures → (open_desk p ps ls).verdict.number ≡ 0 → (G : ℕ) → IsLeast p G → InTime (on_record p) G
opening_in_time p ps ls w e G h = checked_in_time p ps ls w (opened_checked p ps ls e) G h

pub planned_least : (x : Showing) (f : Figures) → Legal (visits_of x) f → IsLeast (plan_of x f) (min 1 (plan_of x f).margin)
unfolding plan_of sweep_gain
planned_least x f ok = least_within (plan_of x f) (omega (arith, margin_less x f ok))

-- the plan of an accepted opening is one of legal figures
pub opened_least : (p : Plan) (ps ls : List ℕ) → Wide p.figures → (open_desk p ps ls).verdict.number ≡ 0 → IsLeast p (min 1 p.margin)
opened_least p ps ls w e =
    let q = opened_checked p ps ls e in
    subst (λ (r : Plan). IsLeast r (min 1 r.margin)) (sym (checked p ps ls q).plan) (planned_least (showing_in p) p.figures (checked_legal p ps ls w q))
