-- A refused call of the desk leaves every string as it was; a refused opening leaves zeros.
-- Assumes nothing.
use Rattle.std.specs.Prelude.{ℕ, Bool, cond, length, eqb}
use Rattle.std.proofs.Math.Path.{◌≡◌, refl, ap}
use Rattle.std.proofs.Common.{◌∙◌, eq-eqb, ne_eqb}
use Rattle.std.proofs.Math.Bool.{true, false}
use mathlib.Core.List.{List}
use Rattle.std.proofs.Math.Logic.{by_cases}
use native.Mathlib.Omega.{arith}
use Rattle.std.proofs.Math.Decide.{ℕ_discrete}
use Rattle.numbers.specs.Refusals.{not_sound, too_short}
use Rattle.words.specs.Words.{Bytes, words_of, with_words}
use Rattle.card.specs.declared.Verdict.{Verdict}
use Rattle.plan.specs.declared.Plan.{Plan}
use Rattle.plan.specs.Answer.{is_plan}
use Rattle.pacing.specs.Shelf.{name_of}
use Rattle.rules.specs.Scheduler.{Entry, Call, join, leave, begin, end}
use Rattle.desk.specs.declared.Desk.{Desk}
use Rattle.desk.specs.declared.Answer.{Answer}
use Rattle.desk.specs.Desk.{desk_of, verdict, blank_desk, open_by, open_desk, answer_of, answered, join_desk, leave_desk, end_desk, begin_desk, entry_words}
use Rattle.desk.specs.Desk.{fetch_list_after}
use Rattle.admission.specs.Refused.{refused_same, refused_desk}
use Rattle.layout.specs.declared.FilmdiskAnswer.{FilmdiskAnswer}
use Rattle.layout.specs.Answers.{verdict_answer}
use Rattle.desk_layout.specs.Layout.{desk_words, desk_size}
use Rattle.plan_layout.specs.Layout.{plan_in, zero_bytes, plan_size}
use Rattle.desk_layout.specs.RoundTrip.{desk_kept, desk_zero}
use Rattle.desk_calls.specs.ByLength.{enough, said_wide, right_answer, right_string, other_string}
use Rattle.desk_calls.specs.Calls.{opened_from, open_verdict, open_answer, open_string, said, answer_by, string_by, join_answer, join_string, leave_answer}
use Rattle.desk_calls.specs.Calls.{leave_string, end_answer, end_string, room_in, begun_answer, begin_answer, begin_string, fetch_string}

-- ---- a desk string D

module _ (D : List ℕ) where
  -- the desk that was read, written back
  same_string : Bytes D → (d : Desk) → (length D ≡ desk_size → d ≡ said D) → string_by D d ≡ D
  unfolding said
  same_string y d e = by_cases (ℕ_discrete (length D) desk_size)
      (λ l. right_string D l d ∙ ap (λ (x : Desk). with_words D 0 (desk_words x)) (e l) ∙ desk_kept D y (enough D l))
      (λ n. other_string D n d)

  module _ (ps ls : List ℕ) where
    module _ (room : ℕ) (call : Call ℕ) where
      pub call_kept : Bytes D → (length D ≡ desk_size → (answer_of (said D) ps ls room call).number ≡ 0 → ⊥)
          → string_by D (desk_of (said D).plan (answer_of (said D) ps ls room call).scheduler) ≡ D
      call_kept y n = same_string y _ (λ l. refused_desk (said D) ps ls room call (said_wide D l) (n l))

      -- the answer a has the number that the rules give, and refuses
      refused_number : (a : FilmdiskAnswer) → a.number ≡ (answer_of (said D) ps ls room call).number → ((answer_by D a).number ≡ 0 → ⊥)
          → length D ≡ desk_size → (answer_of (said D) ps ls room call).number ≡ 0 → ⊥
      refused_number a e n l z = n (ap (λ (x : FilmdiskAnswer). x.number) (right_answer D l a) ∙ e ∙ z)

    pub join_kept : (slot block film : ℕ) → Bytes D → ((join_answer D ps ls slot block film).number ≡ 0 → ⊥) → join_string D ps ls slot block film ≡ D
    unfolding join_answer join_string join_desk answered verdict_answer
    join_kept slot block film y n = call_kept 0 (join slot (name_of film block)) y (refused_number 0 (join slot (name_of film block)) _ refl n)

    pub leave_kept : (slot : ℕ) → Bytes D → ((leave_answer D ps ls slot).number ≡ 0 → ⊥) → leave_string D ps ls slot ≡ D
    unfolding leave_answer leave_string leave_desk answered verdict_answer
    leave_kept slot y n = call_kept 0 (leave slot) y (refused_number 0 (leave slot) _ refl n)

    pub end_kept : (draws : List ℕ) → Bytes D → ((end_answer D ps ls draws).number ≡ 0 → ⊥) → end_string D ps ls draws ≡ D
    unfolding end_answer end_string end_desk answered verdict_answer
    end_kept draws y n = call_kept 0 (end (words_of draws)) y (refused_number 0 (end (words_of draws)) _ refl n)

    pub begin_kept : (F : List ℕ) → Bytes D → ((begin_answer D ps ls F).number ≡ 0 → ⊥) → begin_string D ps ls F ≡ D
    unfolding begin_answer begin_string begin_desk begun_answer
    begin_kept F y n = call_kept (room_in F) begin y (refused_number (room_in F) begin _ refl n)

    -- and a begin leaves the fetch list
    pub fetches_kept : (F : List ℕ) → ((begin_answer D ps ls F).number ≡ 0 → ⊥) → fetch_string D ps ls F ≡ F
    unfolding fetch_string fetch_list_after entry_words with_words begin_answer begin_desk begun_answer
    fetches_kept F n = by_cases (ℕ_discrete (length D) desk_size)
        (λ l. rw (eq-eqb (length D) desk_size l)
        (ap (λ (es : List Entry). with_words F 0 (entry_words es))
        (refused_same (said D) ps ls (room_in F) begin (refused_number (room_in F) begin (begun_answer (begin_desk (said D) ps ls (room_in F))) refl n l)).1))
        (λ o. rw (ne_eqb (length D) desk_size o))

-- ---- an opening

-- by its two tests: the length of the plan string, and whether it is the plan of its figures
abbrev opening : Plan → Bool → Bool → Answer
opening p s t = cond s (open_by t p) (open_by false p)

module _ (P ps ls : List ℕ) where
  -- one that is refused answers a desk that is all zero
  pub refused_blank : ((opened_from P ps ls).verdict.number ≡ 0 → ⊥) → ((opened_from P ps ls).desk ≡ blank_desk) × ((opened_from P ps ls).verdict.number ≡ not_sound)
  unfolding opened_from open_desk
  refused_blank n = go (eqb (length P) plan_size) (is_plan (plan_in (words_of P)) ps ls) n
    where
      go : (s t : Bool) → ((opening (plan_in (words_of P)) s t).verdict.number ≡ 0 → ⊥)
          → ((opening (plan_in (words_of P)) s t).desk ≡ blank_desk) × ((opening (plan_in (words_of P)) s t).verdict.number ≡ not_sound)
      go true true n = absurd (n refl)
      go true false n = (refl, refl)
      go false t n = (refl, refl)

  module _ (D : List ℕ) where
    pub open_number : length D ≡ desk_size → (open_answer P ps ls D).number ≡ (opened_from P ps ls).verdict.number
    unfolding open_answer verdict_answer
    open_number l = rw (eq-eqb (length D) desk_size l)

    pub open_right : length D ≡ desk_size → open_string P ps ls D ≡ with_words D 0 (desk_words (opened_from P ps ls).desk)
    unfolding open_string
    open_right l = rw (eq-eqb (length D) desk_size l)

    -- refused, zeros where the desk string has the right length
    pub open_cleared : length D ≡ desk_size → ((open_answer P ps ls D).number ≡ 0 → ⊥) → open_string P ps ls D ≡ zero_bytes desk_size
    open_cleared l n =
        open_right l ∙ ap (λ (x : Desk). with_words D 0 (desk_words x)) (refused_blank (λ z. n (open_number l ∙ z))).0 ∙ desk_zero D l

    -- a string of another length is never written, and never accepted
    pub open_other : (length D ≡ desk_size → ⊥) → (open_string P ps ls D ≡ D) × ((open_answer P ps ls D).number ≡ 0 → ⊥)
    unfolding open_string open_answer verdict_answer open_verdict
    open_other o = rw (ne_eqb (length D) desk_size o) (refl, never (opened_from P ps ls).verdict)
      where
        never : (v : Verdict) → (cond (eqb v.number 0) (verdict too_short 0) v).number ≡ 0 → ⊥
        never v e = by_cases (ℕ_discrete v.number 0) (λ z. thirteen (rw (eq-eqb v.number 0 z) at e)) (λ n. n (rw (ne_eqb v.number 0 n) at e))
          where
            thirteen : ◌≡◌ {A = ℕ} too_short 0 → ⊥
            thirteen z = omega arith
