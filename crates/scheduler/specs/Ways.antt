-- The two ways of a begin and of an end: refused with the desk as it was, or accepted on a desk that is ready.
-- Assumes nothing.
use Rattle.std.specs.Prelude.{ℕ, ◌*◌, ◌≤◌, ◌<◌, ◌≡◌, refl, ◌≢◌, ◌⊎◌, Bool, true, false, List}
use Rattle.std.proofs.Common.{sym, ◌∙◌, inl, inr, ⊎_elim, arith}
use Rattle.std.proofs.Math.Path.{ap}
use Rattle.std.proofs.Math.Decide.{dec_le, ℕ_discrete}
use Rattle.numbers.specs.Refusals.{too_short, not_sound, wrong_phase}
use Rattle.numbers.specs.Slots.{between, sweeping}
use Rattle.legality.specs.Legality as legality
use Rattle.words.specs.Words.{words_of}
use Rattle.desk.specs.declared.Desk.{Desk}
use Rattle.desk.specs.declared.Answer.{Answer}
use Rattle.desk.specs.declared.Begun.{Begun}
use Rattle.desk.specs.Desk.{visits_in, begin_desk, end_desk}
use Rattle.desk.specs.View.{Wide}
use Rattle.desk.specs.Ready.{Ready}
use Rattle.desk.specs.Records.{answers, not_begun}
use Rattle.soundness.specs.Facts.{sound_desk}
use Rattle.soundness.specs.Ready.{sound_ready}
use Rattle.ends.specs.Ends.{Drawn}
use Rattle.sweep.specs.Steps.{begun_desk, swept_of, begun_of, ended_desk}
use Rattle.sweep.specs.Kept.{begun_of_law}
use Rattle.scheduler.specs.Answers.{begin_unsound, begin_in_sweep, begin_no_room, begin_begun, drawn, end_unsound, end_between, end_refused}
use Rattle.scheduler.specs.Answers.{end_drawn, end_ended}

module _ (d : Desk) (w : Wide d) (z : legality.Wide d.plan.figures) (ps ls : List ℕ) where
  -- ---- begin

  module _ (room : ℕ) where
    -- refused with number k
    pub record NotBegun (k : ℕ) : Type 0 where
      pub some : 0 < k
      pub answer : not_begun d k ≡ begin_desk d ps ls room

    pub record HasBegun : Type 0 where
      pub ready : Ready d
      pub entries : visits_in d.plan * d.plan.streams ≤ room
      pub answer : begun_desk d ≡ begin_desk d ps ls room

    pub begin_ways : ((k : ℕ) × NotBegun k) ⊎ HasBegun
    begin_ways = go (sound_desk d ps ls) refl (ℕ_discrete d.phase between) (dec_le (visits_in d.plan * d.plan.streams) room)
      where
        go : (t : Bool) → sound_desk d ps ls ≡ t → Dec (d.phase ≡ between) → Dec (visits_in d.plan * d.plan.streams ≤ room)
            → ((k : ℕ) × NotBegun k) ⊎ HasBegun
        go false s p l = inl (not_sound, record { some = omega arith; answer = begin_unsound d w ps ls room s })
        go true s (no p) l = inl (wrong_phase, record { some = omega arith; answer = begin_in_sweep d w ps ls room s p })
        go true s (yes p) (no l) = inl (too_short, record { some = omega arith; answer = begin_no_room d w ps ls room s p (omega arith) })
        go true s (yes p) (yes l) = inr (record { ready = sound_ready d ps ls z s; entries = l; answer = begin_begun d w ps ls room s p l })

    number_refused : (k : ℕ) → NotBegun k → (begin_desk d ps ls room).verdict.number ≡ k
    unfolding not_begun
    number_refused k h = ap (λ (b : Begun). b.verdict.number) (sym h.answer)

    number_begun : HasBegun → (begin_desk d ps ls room).verdict.number ≡ 0
    unfolding begun_desk
    number_begun h = ap (λ (b : Begun). b.verdict.number) (sym h.answer)

    -- by the answer's number
    pub begin_refused : (begin_desk d ps ls room).verdict.number ≢ 0 → not_begun d (begin_desk d ps ls room).verdict.number ≡ begin_desk d ps ls room
    begin_refused n =
        ⊎_elim (λ (h : (k : ℕ) × NotBegun k). ap (not_begun d) (number_refused h.0 h.1) ∙ h.1.answer)
        (λ (h : HasBegun). absurd (n (number_begun h))) begin_ways

    pub begin_accepted : (begin_desk d ps ls room).verdict.number ≡ 0 → HasBegun
    begin_accepted e = ⊎_elim (λ (h : (k : ℕ) × NotBegun k). absurd (omega (arith, number_refused h.0 h.1, h.1.some))) (λ (h : HasBegun). h) begin_ways

    -- an accepted begin from what it changed
    pub begin_swept : (begin_desk d ps ls room).verdict.number ≡ 0 → begun_of d (swept_of (begin_desk d ps ls room)) ≡ begin_desk d ps ls room
    begin_swept e =
        let q = (begin_accepted e).answer in
        ap (λ (b : Begun). begun_of d (swept_of b)) (sym q) ∙ begun_of_law d w (begin_accepted e).ready ∙ q

  -- ---- end

  module _ (draws : List ℕ) where
    -- refused with number k and place i
    pub record NotEnded (k i : ℕ) : Type 0 where
      pub some : 0 < k
      pub answer : answers d k i ≡ end_desk d ps ls draws

    pub record HasEnded : Type 0 where
      pub ready : Ready d
      pub drawn : Drawn d (words_of draws)
      pub answer : answers (ended_desk d (words_of draws)) 0 0 ≡ end_desk d ps ls draws

    end_ways : ((k : ℕ) × (i : ℕ) × NotEnded k i) ⊎ HasEnded
    end_ways = go (sound_desk d ps ls) refl (ℕ_discrete d.phase sweeping) (ℕ_discrete (drawn d w ps ls draws).number 0)
      where
        go : (t : Bool) → sound_desk d ps ls ≡ t → Dec (d.phase ≡ sweeping) → Dec ((drawn d w ps ls draws).number ≡ 0)
            → ((k : ℕ) × (i : ℕ) × NotEnded k i) ⊎ HasEnded
        go false s p n = inl (not_sound, 0, record { some = omega arith; answer = end_unsound d w ps ls draws s })
        go true s (no p) n = inl (wrong_phase, 0, record { some = omega arith; answer = end_between d w ps ls draws s p })
        go true s (yes p) (no n) = inl (
          (drawn d w ps ls draws).number,
          (drawn d w ps ls draws).place,
          record { some = omega arith; answer = end_refused d w ps ls draws s n },
        )
        go true s (yes p) (yes n) =
            inr (record { ready = sound_ready d ps ls z s; drawn = end_drawn d w ps ls draws s n; answer = end_ended d w ps ls draws s n })

    -- by the answer's number
    pub end_turned_down : (end_desk d ps ls draws).verdict.number ≢ 0 → record { verdict = (end_desk d ps ls draws).verdict; desk = d } ≡ end_desk d ps ls draws
    end_turned_down n =
        ⊎_elim
        (λ (h : (k : ℕ) × (i : ℕ) × NotEnded k i). (λ t. record { verdict = (sym h.2.answer t).verdict; desk = d }) ∙ h.2.answer)
        (λ (h : HasEnded). absurd (n (ap (λ (a : Answer). a.verdict.number) (sym h.answer)))) end_ways

    pub end_accepted : (end_desk d ps ls draws).verdict.number ≡ 0 → HasEnded
    end_accepted e =
        ⊎_elim
        (λ (h : (k : ℕ) × (i : ℕ) × NotEnded k i). absurd (omega (arith, ap (λ (a : Answer). a.verdict.number) h.2.answer, h.2.some)))
        (λ (h : HasEnded). h) end_ways
