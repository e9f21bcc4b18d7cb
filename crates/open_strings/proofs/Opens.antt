-- An opening with the plan string P on a desk string D: what is opened, and what is answered and written.
-- Assumes nothing.
use Prim.Native.Nat.{ℕ}
use mathlib.Core.Path.{◌≡◌, refl, sym, ap, ◌∙◌}
use mathlib.Core.Bool.{Bool, true, false, cond}
use mathlib.Core.List.{List}
use lib.ListN.{length}
use lib.Dec.{eqb}
use borrow.Author.Tests.{eq-eqb, ne_eqb}
use Rattle.numbers.specs.Refusals.{too_short, not_sound}
use Rattle.words.specs.Words.{words_of, with_words}
use Rattle.card.specs.declared.Verdict.{Verdict}
use Rattle.plan.specs.declared.Plan.{Plan}
use Rattle.plan.specs.Answer.{is_plan}
use Rattle.desk.specs.Desk.{verdict, fresh_desk, blank_desk, open_desk}
use Rattle.desk.specs.Records.{answers}
use Rattle.admission.specs.Answers.{open_unfit, open_done}
use Rattle.layout.specs.declared.FilmdiskAnswer.{FilmdiskAnswer}
use Rattle.layout.specs.Answers.{verdict_answer}
use Rattle.plan_layout.specs.Layout.{plan_in, plan_size}
use Rattle.desk_layout.specs.Layout.{desk_words, desk_size}
use Rattle.desk_calls.specs.Calls.{refused_by, opened_from, open_verdict, open_answer, open_string, string_by}

-- the same either way
either : (t : Bool) (v : Verdict) → v ≡ cond t v v
either true v = refl
either false v = refl

module _ (P ps ls : List ℕ) where
  -- ---- what is opened of the plan string

  pub opened_other : (length P ≡ plan_size → ⊥) → opened_from P ps ls ≡ answers blank_desk not_sound 0
  unfolding opened_from
  opened_other o = rw (ne_eqb (length P) plan_size o)

  -- p is the plan that it says
  module _ (l : length P ≡ plan_size) (p : Plan) (e : p ≡ plan_in (words_of P)) where
    right : opened_from P ps ls ≡ open_desk p ps ls
    unfolding opened_from
    right = rw (eq-eqb (length P) plan_size l) (ap (λ (x : Plan). open_desk x ps ls) (sym e))

    pub opened_unfit : is_plan p ps ls ≡ false → opened_from P ps ls ≡ answers blank_desk not_sound 0
    opened_unfit f = right ∙ sym (open_unfit p ps ls f)

    pub opened_fit : is_plan p ps ls ≡ true → opened_from P ps ls ≡ answers (fresh_desk p) 0 0
    opened_fit t = right ∙ sym (open_done p ps ls t)

  -- ---- what is answered and written

  module _ (D : List ℕ) (r : FilmdiskAnswer) where
    pub open_refused : opened_from P ps ls ≡ answers blank_desk not_sound 0 → (t : List ℕ) → (r ≡ refused_by not_sound) × (t ≡ string_by D blank_desk)
        → (r ≡ open_answer P ps ls D) × (t ≡ open_string P ps ls D)
    unfolding open_answer open_string open_verdict string_by
    open_refused e t (q, w) = rw e (q ∙ ap verdict_answer (either (eqb (length D) desk_size) (verdict not_sound 0)), w)

    module _ (p : Plan) (e : opened_from P ps ls ≡ answers (fresh_desk p) 0 0) where
      -- a desk string of another length is left
      pub open_unwritten : (length D ≡ desk_size → ⊥) → r ≡ refused_by too_short → (r ≡ open_answer P ps ls D) × (D ≡ open_string P ps ls D)
      unfolding open_answer open_string open_verdict
      open_unwritten o q = rw (ne_eqb (length D) desk_size o, e) (q, refl)

      pub open_written : length D ≡ desk_size → r ≡ refused_by 0 → (t : List ℕ) → t ≡ with_words D 0 (desk_words (fresh_desk p))
          → (r ≡ open_answer P ps ls D) × (t ≡ open_string P ps ls D)
      unfolding open_answer open_string
      open_written l q t w = rw (eq-eqb (length D) desk_size l, e) (q, w)
