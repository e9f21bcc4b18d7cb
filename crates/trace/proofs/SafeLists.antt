-- Laws of what specs/SafeLists defines.
use Prim.Native.Nat.{ℕ, zero, ◌+◌}
use Rattle.std.specs.Prelude.{◌≡◌, Bool, true, false, cond, not, ◌&&◌, get_or}
use Rattle.std.proofs.Math.Path.{refl, ap}
use Rattle.std.proofs.Common.{sym, ◌∙◌, subst, arith}
use mathlib.Core.List.{List, [], ◌∷◌, map}
use Rattle.laws.specs.Bools.{clash}
use Rattle.plan.specs.declared.Plan.{Plan}
use Rattle.plan.specs.Scratch.{scratch_short}
use Rattle.rules.specs.Supply.{Lawful}
use Rattle.rules.specs.Order.{Scheduler, by_place}
use Rattle.rules.specs.Scheduler.{leads}
use Rattle.rules.specs.Sound.{sound}
use Rattle.turns.specs.Facts.{Good, sound_says}
use Rattle.turns.specs.Turns.{sound_at}
use Rattle.turns.specs.Answers.{refused_changes_nothing}
use Rattle.rules.specs.Kinds.{kind_after}
use Rattle.rules.specs.Ledger.{line_at, recorded}
use Rattle.rules.specs.Calls.{Given, is_accepted}
use Rattle.desk.specs.declared.Desk.{Desk}
use Rattle.desk.specs.Desk.{supply_of, rules_of, order_of, Queue, view_of, desk_of, answered}
use Rattle.desk.specs.Desk.{zeros, fresh_desk}
use Rattle.desk.specs.Scratch.{desk_leads}
use Rattle.desk.specs.View.{Wide, desk_of_view, view_of_desk}
use Rattle.desk.specs.FilmEnd.{end_says}
use Rattle.desk.specs.Promise.{supply_named}
use Rattle.trace.specs.List.{Request, leaves, Lent, move_of, room_of, Answered, answer_to, called, fair_to}
use Rattle.trace.specs.List.{World, turn, after, opened}
use Rattle.trace.specs.Safe.{Seen, world_after, on_record, Safe}
use Rattle.trace.specs.SlotLaws.{kind_at, held_at}
use Rattle.trace.specs.SafeLists.{as_given, RuledBy, listed_rules, long_answer, unfair, short_answer, accepted_zero, given_of, ruled, seen_as, map_own, desk_after, safe_as, renumbered, State as State_in_specs, on_rules as on_rules_in_specs, Same as Same_in_specs, numbered_by_rules as numbered_by_rules_in_specs}
use Rattle.rules.specs.Order as A
use Rattle.rules.specs.Calls as C
use Rattle.safety.specs.Claim as K

long_rules : (d : Desk) (ps s : List ℕ) (r : Request) → scratch_short s ≡ false
    → RuledBy d.plan (view_of d) (answer_to d false ps s r) (as_given d.plan false ps s r)
long_rules d ps s r e =
    let fair : fair_to d.plan true ps (desk_leads d) ≡ fair_to d.plan false ps s = rw e in
    subst (λ (a : Answered). RuledBy d.plan (view_of d) a (as_given d.plan false ps s r)) (long_answer d ps s r e)
    (subst (λ (t : Bool). RuledBy d.plan (view_of d) (answer_to d true ps (desk_leads d) r) (record { call = move_of r; fair = t; room = room_of r })) fair
    (listed_rules d ps (desk_leads d) r))

short_rules : (d : Desk) (ps s : List ℕ) (r : Request) → desk_of d.plan (view_of d) ≡ d → scratch_short s ≡ true
    → RuledBy d.plan (view_of d) (answer_to d false ps s r) (as_given d.plan false ps s r)
short_rules d ps s r same e =
    let p = d.plan in
    let g = as_given p false ps s r in
    let not-fair : g.fair ≡ false = rw e in
    let a = short_answer d ps s r e in
    let u = unfair p (view_of d) g not-fair in
    record {
      accepted = ap (λ (x : Answered). is_accepted x.number) a ∙ sym (ap (λ (x : C.Answer ℕ Queue). is_accepted x.number) u);
      number = λ h. clash h not-fair;
      desk = ap (λ (x : Answered). x.desk) a ∙ sym same ∙ sym (ap (λ (x : C.Answer ℕ Queue). desk_of p x.scheduler) u);
      entries = ap (λ (x : Answered). x.entries) a ∙ sym (ap (λ (x : C.Answer ℕ Queue). x.entries) u);
      bound = ap (λ (x : Answered). x.bound) a ∙ sym (ap (λ (x : C.Answer ℕ Queue). x.bound) u);
    }

-- a call that is not refused for its scratch
unshort : (d : Desk) (listed : Bool) (ps ls : List ℕ) (r : Request) → (not listed && scratch_short ls) ≡ false
    → RuledBy d.plan (view_of d) (answer_to d listed ps ls r) (as_given d.plan listed ps ls r)
unshort d true ps ls r e = listed_rules d ps ls r
unshort d false ps ls r e = long_rules d ps ls r e

any_rules : (d : Desk) → desk_of d.plan (view_of d) ≡ d → (listed : Bool) (ps ls : List ℕ) (r : Request)
    → RuledBy d.plan (view_of d) (answer_to d listed ps ls r) (as_given d.plan listed ps ls r)
any_rules d same true ps ls r = listed_rules d ps ls r
any_rules d same false ps ls r = go (scratch_short ls) refl
  where
    go : (t : Bool) → scratch_short ls ≡ t → RuledBy d.plan (view_of d) (answer_to d false ps ls r) (as_given d.plan false ps ls r)
    go true e = short_rules d ps ls r same e
    go false e = long_rules d ps ls r e

-- an accepted one is not
pub accepted_long : (d : Desk) (x : Lent) → (called d x).number ≡ 0 → (not x.listed && scratch_short x.leads) ≡ false
accepted_long d x n = go x.listed (scratch_short x.leads) refl n
  where
    go : (t b : Bool) → scratch_short x.leads ≡ b → (answer_to d t x.positions x.leads x.request).number ≡ 0 → (not t && b) ≡ false
    go true b e n = refl
    go false false e n = refl
    go false true e n = absurd (omega (arith, ap (λ (a : Answered). a.number) (short_answer d x.positions x.leads x.request e)))

-- what an accepted call leaves, as the rules say it
pub called_ruled : (d : Desk) (x : Lent) → (called d x).number ≡ 0
    → ((C.answer (supply_of d.plan) (order_of d.plan) (rules_of d.plan) (view_of d) (given_of d.plan x)).number ≡ 0)
    × (view_of (called d x).desk ≡ (C.answer (supply_of d.plan) (order_of d.plan) (rules_of d.plan) (view_of d) (given_of d.plan x)).scheduler)
called_ruled d x n =
    let r = unshort d x.listed x.positions x.leads x.request (accepted_long d x n) in
    (accepted_zero _ _ r.accepted n, ap view_of r.desk ∙ view_of_desk d.plan _)

-- a refused call leaves the desk that it was given, and answers no entries
pub refused_leaves : (d : Desk) (x : Lent) → Wide d → ((called d x).number ≡ 0 → ⊥) → ((called d x).desk ≡ d) × ((called d x).entries ≡ [])
unfolding C.turn
refused_leaves d x w n =
    let r = any_rules d (desk_of_view d w) x.listed x.positions x.leads x.request in
    let h : (ruled d.plan (view_of d) (given_of d.plan x)).number ≡ 0 → ⊥ = λ z. n (accepted_zero _ _ (sym r.accepted) z) in
    let q =
    refused_changes_nothing (supply_of d.plan) (order_of d.plan) (rules_of d.plan) (record { scheduler = view_of d; ledger = [] })
    (given_of d.plan x) (omega arith) in
    (r.desk ∙ ap (λ (v : C.State ℕ Queue). desk_of d.plan v.scheduler) q.0 ∙ desk_of_view d w, r.entries ∙ q.1)

-- ---- the same list for the rules

module _ (p : Plan) where
  abbrev State : Type 0
  State = State_in_specs p

  abbrev on_rules : Seen (Given ℕ)
  on_rules = on_rules_in_specs p

  abbrev Same : (v : World) (u : State) → Type 0
  Same = Same_in_specs p

  abbrev numbered_by_rules : Seen Lent
  numbered_by_rules = numbered_by_rules_in_specs p

  -- the record of a scheduler is answered as the scheduler
  on_desk : (s : Scheduler ℕ Queue) (x : Lent) → RuledBy p s (called (desk_of p s) x) (given_of p x)
  on_desk s x =
      subst (λ (w : Scheduler ℕ Queue). RuledBy p w (called (desk_of p s) x) (given_of p x)) (view_of_desk p s)
      (unfold desk_of in any_rules (desk_of p s) (ap (desk_of p) (view_of_desk p s)) x.listed x.positions x.leads x.request)

  called_same : (d : Desk) (s : Scheduler ℕ Queue) (x : Lent) → d ≡ desk_of p s → RuledBy p s (called d x) (given_of p x)
  called_same d s x e = subst (λ (c : Desk). RuledBy p s (called c x) (given_of p x)) (sym e) (on_desk s x)

  turn_same : (v : World) (u : State) (x : Lent) → Same v u → Same (turn p.figures.bytes v x) (C.turn (supply_of p) (order_of p) (rules_of p) u (given_of p x))
  unfolding turn C.turn C.refusals supply_of
  turn_same v u x s =
      let r = called_same v.desk u.scheduler x s.desk in
      let accepted = r.accepted in
      let entries = r.entries in
      let book = s.book in
      record { desk = r.desk; book = λ t. recorded p.figures.bytes (book t) (move_of x.request) (accepted t) (entries t) }

  after_same : (xs : List Lent) (v : World) (u : State) → Same v u
      → Same (after p.figures.bytes v xs) (C.after (supply_of p) (order_of p) (rules_of p) u (map (given_of p) xs))
  unfolding after C.after
  after_same [] v u s = s
  after_same (x ∷ xs) v u s = after_same xs (turn p.figures.bytes v x) _ (turn_same v u x s)

  same : (xs : List Lent) → Same (world_after p xs) (K.state_after (supply_of p) (order_of p) (map (given_of p) xs))
  unfolding fresh_desk desk_of C.opening A.opened by_place supply_of zeros
  same xs = after_same xs (opened (fresh_desk p)) (C.opening (supply_of p) (order_of p)) (record { desk = refl; book = refl })

  answers_same : (xs : List Lent) (x : Lent)
      → RuledBy p (K.state_after (supply_of p) (order_of p) (map (given_of p) xs)).scheduler (called (world_after p xs).desk x) (given_of p x)
  answers_same xs x = called_same (world_after p xs).desk _ x (same xs).desk

  -- the same calls are accepted
  pub accepted_same : (xs : List Lent) (x : Lent)
      → is_accepted ((on_record p).number xs x) ≡ is_accepted (K.answer_after (supply_of p) (order_of p) (map (given_of p) xs) (given_of p x)).number
  accepted_same xs x = (answers_same xs x).accepted

  pub seen_same : numbered_by_rules ≡ seen_as (given_of p) on_rules
  seen_same = λ t. record {
    desk = λ xs. (same xs).desk t;
    book = λ xs. (same xs).book t;
    number = λ xs x. (K.answer_after (supply_of p) (order_of p) (map (given_of p) xs) (given_of p x)).number;
    bound = λ xs x. (answers_same xs x).bound t;
    move = λ x. move_of x.request;
    fair = λ x. fair_to p x.listed x.positions x.leads;
    room = λ x. room_of x.request;
  }

  -- ---- every list is safe

  module _ (ok : Lawful (supply_of p)) where
    rules_safe : (gs : List (Given ℕ)) → Safe p on_rules gs
    unfolding supply_of
    rules_safe gs =
        let s = K.every_list_safe (supply_of p) ok (supply_named p) gs in
        let d = (K.state_after (supply_of p) (order_of p) gs).scheduler in
        record {
          by_rules = ap (desk_after p) (sym (map_own gs));
          occupied_open = λ i u. (λ k. (s.occupied_open i).0 (omega (arith, kind_at p d i)), λ e. omega (arith, kind_at p d i, (s.occupied_open i).1 e));
          accounted = λ i u e. ap (λ (h : ℕ). h + (line_at (on_rules.book gs) i).consumed) (held_at p d i) ∙ s.accounted i e;
          fits = λ i u. omega (arith, held_at p d i, s.fits i);
          starts_full = λ ys x e m n i u k. omega (arith, held_at p d i, s.starts_full ys x e m n i (sym (kind_at p d i) ∙ k));
          ruled_kinds = λ ys x e i u. kind_at p d i ∙ s.ruled ys x e i u ∙ before ys x i;
          same_plan = unfold desk_of in refl;
          stays_sound = ap (sound (supply_of p) (order_of p)) (view_of_desk p d) ∙ s.stays_sound;
          never_unsound = s.never_unsound;
          loop_never_drains = λ l i u k. (end_says p _ ((good gs i).past (sym (kind_at p d i) ∙ k))).0 l;
        }
      where
        -- each slot is sound
        good : (gs : List (Given ℕ)) (i : ℕ)
            → Good (supply_of p) (leads (supply_of p) (K.state_after (supply_of p) (order_of p) gs).scheduler.slots) (K.slot_after (supply_of p) (order_of p) gs i)
        good gs i =
            let d = (K.state_after (supply_of p) (order_of p) gs).scheduler in
            sound_at (supply_of p) (supply_named p) (order_of p) d
            (sound_says (supply_of p) (supply_named p) (order_of p) d (K.every_list_safe (supply_of p) ok (supply_named p) gs).stays_sound) i

        -- the desk before the last call is the scheduler's too
        before : (ys : List (Given ℕ)) (x : Given ℕ) (i : ℕ)
            → cond (is_accepted (on_rules.number ys x)) (kind_after (supply_of p) (K.state_after (supply_of p) (order_of p) ys).scheduler x.call i)
            (K.slot_after (supply_of p) (order_of p) ys i).kind
            ≡ cond (is_accepted (on_rules.number ys x)) (kind_after (supply_of p) (view_of (on_rules.desk ys)) x.call i) (get_or (on_rules.desk ys).kinds i 0)
        before ys x i =
            let d = (K.state_after (supply_of p) (order_of p) ys).scheduler in
            let view = sym (view_of_desk p d) in
            let kind = sym (kind_at p d i) in
            λ t. cond (is_accepted (on_rules.number ys x)) (kind_after (supply_of p) (view t) x.call i) (kind t)

    -- DEMAND 3
    pub list_safe : (xs : List Lent) → Safe p (on_record p) xs
    list_safe xs =
        renumbered p numbered_by_rules (on_record p).number accepted_same (λ ys x. (answers_same ys x).number) xs
        (subst (λ (v : Seen Lent). Safe p v xs) (sym seen_same) (safe_as (given_of p) on_rules p xs (rules_safe (map (given_of p) xs))))
