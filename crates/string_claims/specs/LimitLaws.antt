-- An end judges by the draw limit of each slot, for the bound of the desk's sweep, which is what its begin answered.
-- Assumes nothing.
use Prim.Native.Nat.{ℕ, ◌*◌, ◌/◌, ◌<◌}
use Rattle.std.proofs.Math.Path.{◌≡◌, ap}
use Rattle.std.specs.Prelude.{refl, ◌≢◌, true, false, ◌&&◌, List, length, get_or, eqb}
use Rattle.std.proofs.Common.{sym, ◌∙◌}
use Rattle.std.proofs.Math.Logic.{by_cases}
use Rattle.std.proofs.Math.Bool.{Bool}
use native.Mathlib.Omega.{arith}
use Rattle.std.proofs.Math.Decide.{ℕ_discrete}
use borrow.Author.Tests.{lt-leb}
use Rattle.laws.specs.Bools.{clash}
use Rattle.laws.specs.Indices.{all_from, lowest_from, each_of_all_from, each_from_at}
use Rattle.numbers.specs.Limits.{max_streams}
use Rattle.numbers.specs.Refusals.{not_sound, wrong_phase, draw_count, draw_above_limit, draw_above_held}
use Rattle.numbers.specs.Slots.{sweeping}
use Rattle.numbers.specs.Units.{micros}
use Rattle.words.specs.Words.{words_of}
use Rattle.plan.specs.Answer.{is_plan}
use Rattle.rules.specs.Scheduler.{Slot, begin, end, free_slot, at, bound, most_drawn, draw_limit}
use Rattle.rules.specs.Order.{Scheduler}
use Rattle.rules.specs.Sound.{sound}
use Rattle.rules.specs.Refusals.{Verdict, accept, unless, draw_allowed, draw_held, judged, verdict}
use Rattle.rules.specs.Calls as C
use Rattle.turns.specs.Answers.{verdict_zero, answer_accepted, answer_number}
use Rattle.desk.specs.declared.Desk.{Desk}
use Rattle.desk.specs.Desk.{supply_of, order_of, rules_of, Queue, slots_in, view_of, desk_of, answer_of, answered, begin_desk, end_desk}
use Rattle.desk.specs.View.{Wide, view_of_desk}
use Rattle.desk.specs.Slots.{length_in_law, kind_in}
use Rattle.draws.specs.Draws.{kind_limit}
use Rattle.trace.specs.Answers.{draw_at, may_draw, LowestAbove}
use Rattle.trace.proofs.DrawLaws.{limit_lowest}
use Rattle.layout.specs.declared.FilmdiskAnswer.{FilmdiskAnswer}
use Rattle.layout.specs.Answers.{verdict_answer}
use Rattle.desk_layout.specs.Layout.{desk_size}
use Rattle.desk_calls.specs.ByLength.{said_wide, right_answer, other_answer}
use Rattle.desk_calls.specs.Limits.{limit_right}
use Rattle.desk_calls.specs.Calls.{said, answer_by, end_answer, room_in, begun_answer, begin_answer, begin_string, draw_limit_of}
use Rattle.string_claims.specs.Back.{begin_back}
use Rattle.string_claims.specs.Limits.{sweep_bound, ReachesDraws, JudgedBy}

-- ---- the rows of an end

-- one that got past 14, 15 and 19, where not every draw is allowed
rows : (t a b c : Bool) (low : ℕ) (r : Verdict) (k : ℕ)
    → k ≡ (unless t not_sound 0 (unless a wrong_phase 0 (unless b draw_count 0 (unless c draw_above_limit low r)))).number → ReachesDraws k → c ≡ false
    → k ≡ draw_above_limit
rows true true true true low r k e p q = clash refl q
rows true true true false low r k e p q = e
rows true true false c low r k e p q = absurd (p.2 e)
rows true false b c low r k e p q = absurd (p.1 e)
rows false a b c low r k e p q = absurd (p.0 e)

module _ (d : Desk) (w : Wide d) (draws : List ℕ) where
  -- some draw is not allowed
  some_not : (i : ℕ) → i < max_streams → may_draw d i < draw_at draws i
      → all_from (draw_allowed (supply_of d.plan) (most_drawn (supply_of d.plan) (slots_in d)) (words_of draws)) 0 (slots_in d) ≡ false
  some_not i l h = go (all_from f 0 (slots_in d)) refl
    where
      f : ℕ → Slot ℕ → Bool
      f = draw_allowed (supply_of d.plan) (most_drawn (supply_of d.plan) (slots_in d)) (words_of draws)

      fails : f i (at (supply_of d.plan) (slots_in d) i) ≡ false
      fails = unfold draw_allowed in lt-leb (draw_at draws i) (may_draw d i) h

      passes : all_from f 0 (slots_in d) ≡ true → f i (at (supply_of d.plan) (slots_in d) i) ≡ true
      passes e =
          each_from_at (λ j x. f j x ≡ true) (free_slot (supply_of d.plan)) (slots_in d) i (each_of_all_from f 0 (slots_in d) e) (omega (arith, length_in_law d w))

      go : (t : Bool) → all_from f 0 (slots_in d) ≡ t → t ≡ false
      go true e = clash (passes e) fails
      go false e = refl

  module _ (ps ls : List ℕ) where
    end_number : (end_desk d ps ls draws).verdict.number
        ≡ (verdict (supply_of d.plan) (order_of d.plan) (view_of d) (is_plan d.plan ps ls) 0 (end (words_of draws))).number
    unfolding end_desk answered answer_of C.refusals
    end_number = answer_number (supply_of d.plan) (order_of d.plan) (rules_of d.plan) (view_of d) _

    pub end_above : (i : ℕ) → i < max_streams → may_draw d i < draw_at draws i → ReachesDraws (end_desk d ps ls draws).verdict.number
        → (end_desk d ps ls draws).verdict.number ≡ draw_above_limit
    unfolding verdict judged view_of
    end_above i l h k =
        let p = supply_of d.plan in
        let ds = words_of draws in
        let f : ℕ → Slot ℕ → Bool = draw_allowed p (most_drawn p (slots_in d)) ds in
        rows (is_plan d.plan ps ls && sound p (order_of d.plan) (view_of d)) (eqb d.phase sweeping) (eqb (length ds) p.n) (all_from f 0 (slots_in d))
        (lowest_from f 0 (slots_in d)) (unless (all_from (draw_held p ds) 0 (slots_in d)) draw_above_held (lowest_from (draw_held p ds) 0 (slots_in d)) accept)
        _ end_number k (some_not i l h)

-- ---- a desk string D in a sweep of this bound

module _ (D : List ℕ) (b : ℕ) (e : b ≡ sweep_bound (said D)) where
  pub limit_is : length D ≡ desk_size → (i : ℕ) → i < max_streams → draw_limit_of D i b ≡ may_draw (said D) i
  unfolding kind_limit draw_limit most_drawn supply_of
  limit_is l i h =
      limit_right D i b l h ∙ (λ t. kind_limit ((said D).plan.figures.rate * e t / micros) (sym (kind_in (said D) (said_wide D l) i) t))

  module _ (ps ls draws : List ℕ) where
    -- of the right length the answer is the desk's
    by_desk : length D ≡ desk_size → end_answer D ps ls draws ≡ verdict_answer (end_desk (said D) ps ls draws).verdict
    unfolding end_answer
    by_desk l = right_answer D l _

    number_is : length D ≡ desk_size → (end_answer D ps ls draws).number ≡ (end_desk (said D) ps ls draws).verdict.number
    unfolding verdict_answer
    number_is l = ap (λ (a : FilmdiskAnswer). a.number) (by_desk l)

    place_is : length D ≡ desk_size → (end_answer D ps ls draws).place ≡ (end_desk (said D) ps ls draws).verdict.place
    unfolding verdict_answer
    place_is l = ap (λ (a : FilmdiskAnswer). a.place) (by_desk l)

    -- one of another length is 14
    other_number : (length D ≡ desk_size → ⊥) → (end_answer D ps ls draws).number ≡ not_sound
    unfolding end_answer verdict_answer
    other_number o = ap (λ (a : FilmdiskAnswer). a.number) (other_answer D o _)

    lowest_of : (l : length D ≡ desk_size) (i : ℕ) → LowestAbove (may_draw (said D)) (draw_at draws) i → LowestAbove (λ j. draw_limit_of D j b) (draw_at draws) i
    lowest_of l i u = record {
      inside = u.inside;
      above = omega (arith, u.above, limit_is l i u.inside);
      below = λ j h. omega (arith, u.below j h, limit_is l j (omega (arith, u.inside)));
    }

    pub judged_by : ReachesDraws (end_answer D ps ls draws).number → JudgedBy (λ i. draw_limit_of D i b) draws (end_answer D ps ls draws)
    judged_by k = by_cases (ℕ_discrete (length D) desk_size) right (λ o. absurd (k.0 (other_number o)))
      where
        right : length D ≡ desk_size → JudgedBy (λ i. draw_limit_of D i b) draws (end_answer D ps ls draws)
        right l =
            let n = number_is l in
            let w = said_wide D l in
            record {
              above = λ i h u. n ∙ end_above (said D) w draws ps ls i h (omega (arith, limit_is l i h)) (rw n at k);
              lowest = λ z. rw (place_is l) (lowest_of l _ (limit_lowest (said D) ps ls draws w (sym n ∙ z)));
            }

-- ---- the bound that a begin answers is that of the sweep which it leaves

module _ (d : Desk) (ps ls : List ℕ) (room : ℕ) where
  begun_bound : (begin_desk d ps ls room).verdict.number ≡ 0 → (begin_desk d ps ls room).bound ≡ sweep_bound (begin_desk d ps ls room).desk
  unfolding begin_desk answer_of C.accepted desk_of view_of
  begun_bound z =
      let p = supply_of d.plan in
      let o = order_of d.plan in
      let x : C.Given ℕ = record { call = begin; fair = is_plan d.plan ps ls; room = room } in
      let a : C.Answer ℕ Queue = C.answer p o (rules_of d.plan) (view_of d) x in
      let q : a ≡ C.accepted p o (view_of d) begin = unfold C.refusals in
      answer_accepted p o (rules_of d.plan) (view_of d) x (verdict_zero p o (rules_of d.plan) (view_of d) x z) in
      ap (λ (y : C.Answer ℕ Queue). y.bound) q
      ∙ ap (λ (y : C.Answer ℕ Queue). bound p y.scheduler.slots) (sym q)
      ∙ ap (λ (v : Scheduler ℕ Queue). bound p v.slots) (sym (view_of_desk d.plan a.scheduler))

module _ (D ps ls F : List ℕ) where
  begin_by_desk : (begin_answer D ps ls F).number ≡ 0
      → ((begin_desk (said D) ps ls (room_in F)).verdict.number ≡ 0) × ((begin_answer D ps ls F).bound ≡ (begin_desk (said D) ps ls (room_in F)).bound)
  unfolding begin_answer begun_answer verdict_answer
  begin_by_desk z = by_cases (ℕ_discrete (length D) desk_size)
      (λ l. let q = right_answer D l (begun_answer (begin_desk (said D) ps ls (room_in F))) in
      (sym (ap (λ (a : FilmdiskAnswer). a.number) q) ∙ z, ap (λ (a : FilmdiskAnswer). a.bound) q))
      (λ o. absurd (never (sym (ap (λ (a : FilmdiskAnswer). a.number) (other_answer D o _)) ∙ z)))
    where
      never : ◌≡◌ {A = ℕ} not_sound 0 → ⊥
      never z = omega arith

  pub begun_sweep : (begin_answer D ps ls F).number ≡ 0 → (begin_answer D ps ls F).bound ≡ sweep_bound (said (begin_string D ps ls F))
  begun_sweep z =
      let r = begin_by_desk z in
      r.1 ∙ begun_bound (said D) ps ls (room_in F) r.0 ∙ ap sweep_bound (sym (begin_back D ps ls F z))
