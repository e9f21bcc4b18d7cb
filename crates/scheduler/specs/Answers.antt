-- The answers of begin and end, a law for each way that their code can take: the rows of 01's table, then what an accepted call makes.
-- Assumes nothing.
use Rattle.std.specs.Prelude.{ℕ, ◌*◌, ◌≤◌, ◌<◌, ◌≡◌, refl, ◌≢◌, Bool, true, false, length, eqb}
use Rattle.std.proofs.Math.Path.{sym, ap}
use Rattle.std.proofs.Common.{◌∙◌, arith}
use Rattle.std.proofs.Math.Logic.{by_cases}
use mathlib.Core.List.{List, []}
use Rattle.std.proofs.Math.Decide.{ℕ_discrete}
use Rattle.numbers.specs.Refusals.{too_short, not_sound, wrong_phase, draw_count, draw_above_limit, draw_above_held}
use Rattle.numbers.specs.Slots.{between, sweeping}
use Rattle.card.specs.declared.Verdict.{Verdict}
use Rattle.words.specs.Words.{words_of}
use Rattle.plan.specs.Answer.{is_plan}
use Rattle.laws.specs.Indices.{all_from, lowest_from}
use Rattle.rules.specs.Scheduler.{Call, most_drawn, begin, end}
use Rattle.rules.specs.Refusals as refusals
use Rattle.rules.specs.Calls as calls
use Rattle.turns.specs.Answers.{answer_accepted, answer_refused}
use Rattle.turns.specs.Verdicts.{refusals_strict}
use Rattle.turns.specs.Rows.{refuse, begin_phase, begin_short, begin_accepted, end_phase}
use Rattle.desk.specs.declared.Desk.{Desk}
use Rattle.desk.specs.declared.Answer.{Answer}
use Rattle.desk.specs.Desk.{visits_in, supply_of, rules_of, order_of, view_of, desk_of, verdict, fetches_of, answer_of, answered, begin_desk, end_desk}
use Rattle.desk.specs.View.{Wide, desk_of_view}
use Rattle.desk.specs.Promise.{supply_named}
use Rattle.desk.specs.Records.{answers, not_begun}
use Rattle.soundness.specs.Facts.{sound_desk}
use Rattle.draws.specs.Draws.{judged_draws}
use Rattle.ends.specs.Ends.{Drawn}
use Rattle.sweep.specs.Steps.{begun_desk, ended_desk}

module _ (d : Desk) (w : Wide d) (ps ls : List ℕ) where
  abbrev judges : ℕ → Call ℕ → refusals.Verdict
  judges room c = refusals.verdict (supply_of d.plan) (order_of d.plan) (view_of d) (is_plan d.plan ps ls) room c

  unsound_row : (room : ℕ) (c : Call ℕ) → sound_desk d ps ls ≡ false → judges room c ≡ refuse not_sound 0
  unfolding refusals.verdict
  unsound_row room c e = rw e

  sound_row : (room : ℕ) (c : Call ℕ) → sound_desk d ps ls ≡ true → judges room c ≡ refusals.judged (supply_of d.plan) (view_of d) room c
  unfolding refusals.verdict
  sound_row room c e = rw e

  -- the rules' answer to a refused and to an accepted call
  refused_answer : (room : ℕ) (c : Call ℕ) (k i : ℕ) → 0 < k → judges room c ≡ refuse k i
      → answer_of d ps ls room c ≡ calls.refused (supply_of d.plan) (order_of d.plan) (view_of d) k i
  unfolding answer_of calls.refusals
  refused_answer room c k i h e =
      let p = supply_of d.plan in
      answer_refused p (order_of d.plan) (rules_of d.plan) (view_of d) (record { call = c; fair = is_plan d.plan ps ls; room = room }) k i h e

  accepted_answer : (room : ℕ) (c : Call ℕ) → (judges room c).number ≡ 0
      → answer_of d ps ls room c ≡ calls.accepted (supply_of d.plan) (order_of d.plan) (view_of d) c
  unfolding answer_of calls.refusals
  accepted_answer room c e =
      let p = supply_of d.plan in
      answer_accepted p (order_of d.plan) (rules_of d.plan) (view_of d) (record { call = c; fair = is_plan d.plan ps ls; room = room }) e

  -- ---- begin

  module _ (room : ℕ) where
    not_begun_law : (k : ℕ) → 0 < k → judges room begin ≡ refuse k 0 → not_begun d k ≡ begin_desk d ps ls room
    unfolding begin_desk not_begun
    not_begun_law k h e =
        let a = refused_answer room begin k 0 h e in
        (λ t. record { verdict = verdict k 0; desk = sym (desk_of_view d w) t; bound = 0; fetches = fetches_of [] })
        ∙ λ t. record {
          verdict = verdict (sym a t).number (sym a t).place;
          desk = desk_of d.plan (sym a t).scheduler;
          bound = (sym a t).bound;
          fetches = fetches_of (sym a t).entries;
        }

    pub begin_unsound : sound_desk d ps ls ≡ false → not_begun d not_sound ≡ begin_desk d ps ls room
    begin_unsound e = not_begun_law not_sound (omega arith) (unsound_row room begin e)

    module _ (s : sound_desk d ps ls ≡ true) where
      pub begin_in_sweep : d.phase ≢ between → not_begun d wrong_phase ≡ begin_desk d ps ls room
      unfolding view_of
      begin_in_sweep h = not_begun_law wrong_phase (omega arith) (sound_row room begin s ∙ begin_phase (supply_of d.plan) (view_of d) room h)

      pub begin_no_room : d.phase ≡ between → room < visits_in d.plan * d.plan.streams → not_begun d too_short ≡ begin_desk d ps ls room
      unfolding view_of supply_of
      begin_no_room h l = not_begun_law too_short (omega arith) (sound_row room begin s ∙ begin_short (supply_of d.plan) (view_of d) room h (omega arith))

      pub begin_begun : d.phase ≡ between → visits_in d.plan * d.plan.streams ≤ room → begun_desk d ≡ begin_desk d ps ls room
      unfolding view_of supply_of begin_desk begun_desk calls.accepted
      begin_begun h l =
          let p = supply_of d.plan in
          let v : judges room begin ≡ refusals.accept = sound_row room begin s ∙ begin_accepted p (view_of d) room h (omega arith) in
          let a = accepted_answer room begin (ap (λ (u : refusals.Verdict). u.number) v) in
          λ t. record {
            verdict = verdict (sym a t).number (sym a t).place;
            desk = desk_of d.plan (sym a t).scheduler;
            bound = (sym a t).bound;
            fetches = fetches_of (sym a t).entries;
          }

  -- ---- end

  module _ (draws : List ℕ) where
    -- the verdict on the draws
    abbrev pub drawn : Verdict
    drawn = judged_draws (supply_of d.plan) (view_of d) (words_of draws)

    not_ended : (k i : ℕ) → 0 < k → judges 0 (end (words_of draws)) ≡ refuse k i → answers d k i ≡ end_desk d ps ls draws
    unfolding end_desk answered
    not_ended k i h e =
        let a = refused_answer 0 (end (words_of draws)) k i h e in
        (λ t. record { verdict = verdict k i; desk = sym (desk_of_view d w) t })
        ∙ λ t. record { verdict = verdict (sym a t).number (sym a t).place; desk = desk_of d.plan (sym a t).scheduler }

    pub end_unsound : sound_desk d ps ls ≡ false → answers d not_sound 0 ≡ end_desk d ps ls draws
    end_unsound e = not_ended not_sound 0 (omega arith) (unsound_row 0 (end (words_of draws)) e)

    module _ (s : sound_desk d ps ls ≡ true) where
      pub end_between : d.phase ≢ sweeping → answers d wrong_phase 0 ≡ end_desk d ps ls draws
      unfolding view_of
      end_between h = not_ended wrong_phase 0 (omega arith) (sound_row 0 (end (words_of draws)) s ∙ end_phase (supply_of d.plan) (view_of d) 0 (words_of draws) h)

      -- draws that are turned down
      pub end_refused : drawn.number ≢ 0
          → answers d drawn.number drawn.place ≡ end_desk d ps ls draws
      unfolding judged_draws
      end_refused n = not_ended _ _ (omega arith) (sound_row 0 (end (words_of draws)) s)

      -- and draws that are not
      clear : drawn.number ≡ 0 → (judges 0 (end (words_of draws))).number ≡ 0
      unfolding judged_draws
      clear e = ap (λ (u : refusals.Verdict). u.number) (sound_row 0 (end (words_of draws)) s) ∙ e

      pub end_drawn : drawn.number ≡ 0 → Drawn d (words_of draws)
      unfolding calls.refusals
      end_drawn e =
          let p = supply_of d.plan in
          (refusals_strict p (supply_named d.plan) (order_of d.plan)).strict (view_of d)
          (record { call = end (words_of draws); fair = is_plan d.plan ps ls; room = 0 }) (clear e)

      pub end_ended : drawn.number ≡ 0 → answers (ended_desk d (words_of draws)) 0 0 ≡ end_desk d ps ls draws
      unfolding end_desk answered ended_desk calls.accepted
      end_ended e =
          let a = accepted_answer 0 (end (words_of draws)) (clear e) in
          λ t. record { verdict = verdict (sym a t).number (sym a t).place; desk = desk_of d.plan (sym a t).scheduler }

      -- an accepted end names no place
      placeless : (a b c e : Bool) (i j : ℕ) → (let v = refusals.unless a wrong_phase 0
          (refusals.unless b draw_count 0 (refusals.unless c draw_above_limit i (refusals.unless e draw_above_held j refusals.accept))) in
          v.number ≡ 0 → v.place ≡ 0)
      placeless true true true true i j h = refl
      placeless true true true false i j h = absurd (omega arith)
      placeless true true false e i j h = absurd (omega arith)
      placeless true false c e i j h = absurd (omega arith)
      placeless false b c e i j h = absurd (omega arith)

      no_place : drawn.number ≡ 0 → drawn.place ≡ 0
      unfolding judged_draws refusals.judged
      no_place =
          let p = supply_of d.plan in
          let v = view_of d in
          let ds = words_of draws in
          let allowed = refusals.draw_allowed p (most_drawn p v.slots) ds in
          let held = refusals.draw_held p ds in
          placeless (eqb v.phase 1) (eqb (length ds) p.n) (all_from allowed 0 v.slots) (all_from held 0 v.slots)
          (lowest_from allowed 0 v.slots) (lowest_from held 0 v.slots)

      -- either way the judge of the draws has the verdict
      pub end_judged : drawn ≡ (end_desk d ps ls draws).verdict
      end_judged = by_cases (ℕ_discrete drawn.number 0) accepts refuses
        where
          accepts : drawn.number ≡ 0 → drawn ≡ (end_desk d ps ls draws).verdict
          accepts e = (λ t. record { number = e t; place = no_place e t }) ∙ ap (λ (a : Answer). a.verdict) (end_ended e)

          refuses : (drawn.number ≡ 0 → ⊥) → drawn ≡ (end_desk d ps ls draws).verdict
          refuses n = ap (λ (a : Answer). a.verdict) (end_refused n)
