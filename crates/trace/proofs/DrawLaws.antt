-- Laws of what specs/DrawLaws defines.
use Prim.Native.Nat.{ℕ, zero, suc, ◌<◌}
use Rattle.std.specs.Prelude.{◌≡◌, refl, ◌≢◌, true, false, ◌&&◌, List, leb}
use Rattle.std.proofs.Common.{sym, ◌∙◌, arith, leb-true, leb-false}
use Rattle.std.proofs.Math.Path.{ap}
use Rattle.std.proofs.Math.Bool.{Bool}
use Rattle.std.proofs.Math.ListN.{get_or}
use Rattle.laws.specs.Indices.{Lowest}
use Rattle.numbers.specs.Refusals.{not_sound, draw_above_limit, draw_above_held}
use Rattle.words.specs.Words.{words_of}
use Rattle.plan.specs.Answer.{is_plan}
use Rattle.rules.specs.Scheduler.{Slot, end, free_slot, at, most_drawn}
use Rattle.rules.specs.Sound.{sound}
use Rattle.rules.specs.Refusals.{Verdict, unless, draw_allowed, draw_held, judged, verdict}
use Rattle.turns.specs.Verdicts.{excess_lowest, overdrawn_lowest}
use Rattle.desk.specs.declared.Desk.{Desk}
use Rattle.desk.specs.Desk.{supply_of, order_of, rules_of, slots_in, view_of, answer_of, answered, end_desk}
use Rattle.desk.specs.View.{Wide}
use Rattle.desk.specs.Slots.{length_in_law, held_in}
use Rattle.desk.specs.Promise.{supply_named}
use Rattle.trace.specs.Answers.{draw_at, may_draw, LowestAbove}
use Rattle.trace.specs.DrawLaws.{past_sound, judgment as judgment_in_specs}
use Rattle.rules.specs.Calls as C

module _ (d : Desk) (ps ls draws : List ℕ) where
  abbrev judgment : Verdict
  judgment = judgment_in_specs d ps ls draws

  -- a refused end, but for 14, has their number and place
  end_judged : (k : ℕ) → 0 < k → k ≢ not_sound → (end_desk d ps ls draws).verdict.number ≡ k → (judgment.number ≡ k)
      × ((end_desk d ps ls draws).verdict.place ≡ judgment.place)
  unfolding end_desk answered answer_of C.answer C.refusals C.accepted verdict
  end_judged k h n e =
      let t : Bool = is_plan d.plan ps ls && sound (supply_of d.plan) (order_of d.plan) (view_of d) in
      let v : Verdict = unless t not_sound 0 judgment in
      let r = refused v.number v.place e in
      let q = past_sound t judgment k n r.0 in
      (sym (ap (λ (w : Verdict). w.number) q) ∙ r.0, r.1 ∙ ap (λ (w : Verdict). w.place) q)
    where
      given : C.Given ℕ
      given = record { call = end (words_of draws); fair = is_plan d.plan ps ls; room = 0 }

      refused : (m i : ℕ) → (C.answer_by (supply_of d.plan) (order_of d.plan) (rules_of d.plan) m i (view_of d) given).number ≡ k
          → (m ≡ k) × ((C.answer_by (supply_of d.plan) (order_of d.plan) (rules_of d.plan) m i (view_of d) given).place ≡ i)
      refused zero i e = absurd (omega arith)
      refused (suc m) i e = (e, refl)

  module _ (w : Wide d) where
    -- the lowest slot that fails a test of its draw
    lowest_above : (limit : ℕ → ℕ) (f : ℕ → Slot ℕ → Bool) (i : ℕ)
        → ((j : ℕ) → f j (at (supply_of d.plan) (slots_in d) j) ≡ leb (draw_at draws j) (limit j))
        → Lowest f (free_slot (supply_of d.plan)) (slots_in d) i → LowestAbove limit (draw_at draws) i
    lowest_above limit f i q l = record {
      inside = omega (arith, l.inside, length_in_law d w);
      above = leb-false (draw_at draws i) (limit i) (sym (q i) ∙ l.fails);
      below = λ j u. leb-true (draw_at draws j) (limit j) (sym (q j) ∙ l.below j u);
    }

    pub limit_lowest : (end_desk d ps ls draws).verdict.number ≡ draw_above_limit → LowestAbove (may_draw d) (draw_at draws) (end_desk d ps ls draws).verdict.place
    unfolding draw_allowed view_of
    limit_lowest e =
        let p = supply_of d.plan in
        let (n, i) = end_judged draw_above_limit (omega arith) (λ z. omega arith) e in
        rw i (lowest_above (may_draw d) (draw_allowed p (most_drawn p (slots_in d)) (words_of draws)) judgment.place (λ j. refl)
        (excess_lowest p (supply_named d.plan) (view_of d) 0 (words_of draws) n))

    pub held_lowest : (end_desk d ps ls draws).verdict.number ≡ draw_above_held
        → LowestAbove (λ i. get_or d.held i 0) (draw_at draws) (end_desk d ps ls draws).verdict.place
    unfolding draw_held view_of
    held_lowest e =
        let p = supply_of d.plan in
        let (n, i) = end_judged draw_above_held (omega arith) (λ z. omega arith) e in
        rw i (lowest_above (λ j. get_or d.held j 0) (draw_held p (words_of draws)) judgment.place
        (λ j. ap (leb (draw_at draws j)) (held_in d w j))
        (overdrawn_lowest p (supply_named d.plan) (view_of d) 0 (words_of draws) n))
