-- A join or a leave on a desk string D: refused, or accepted and written.
-- Assumes nothing.
use Prim.Native.Nat.{ℕ, ◌≤◌, ◌<◌}
use mathlib.Core.Path.{◌≡◌, sym, ap, ◌∙◌}
use mathlib.Core.Logic.{◌≢◌}
use mathlib.Core.Bool.{true}
use mathlib.Core.List.{List}
use native.Mathlib.Omega.{arith}
use lib.ListN.{length}
use Rattle.words.specs.Words.{words_of, with_words}
use Rattle.card.specs.declared.Verdict.{Verdict}
use Rattle.desk.specs.declared.Desk.{Desk}
use Rattle.desk.specs.declared.Answer.{Answer}
use Rattle.desk.specs.Records.{answers, with_slot}
use Rattle.soundness.specs.Facts.{sound_desk}
use Rattle.admission.specs.declared.Move.{Move}
use Rattle.admission.specs.Moves.{move_desk, kind_after, next_after}
use Rattle.admission.specs.Places.{places_after, Nameable, Movable}
use Rattle.admission.specs.Answers.{move_refused, move_made, sound_movable}
use Rattle.layout.specs.declared.FilmdiskAnswer.{FilmdiskAnswer}
use Rattle.layout.specs.Answers.{verdict_answer}
use Rattle.desk_layout.specs.Layout.{desk_words, desk_in, desk_size}
use Rattle.desk_layout.specs.RoundTrip.{DeskSized}
use Rattle.desk_calls.specs.ByLength.{said_sized}
use Rattle.desk_calls.specs.Calls.{said}
use Rattle.desk_calls.specs.Inner.{move_answer, move_string}
use Rattle.desk_calls.specs.Judged.{wide_of, slim_of, Judged, said_number, judged_answer, written_string, refused_string}

module _ (ps ls : List ℕ) (m : Move) (D : List ℕ) (v : Verdict) (h : Judged (λ (d : Desk). move_desk d ps ls m) D v) where
  abbrev sized : DeskSized (said D)
  sized = said_sized D h.right

  pub move_left : v.number ≢ 0 → (r : FilmdiskAnswer) → r ≡ verdict_answer v → (r ≡ move_answer D ps ls m) × (D ≡ move_string D ps ls m)
  unfolding move_answer move_string
  move_left n r q = (
    q ∙ judged_answer _ D v h,
    refused_string _ D v h (move_refused (said D) (wide_of (said D) sized) ps ls m (λ z. n (sym (said_number _ D v h) ∙ z))),
  )

  module _ (n : v.number ≡ 0) where
    abbrev made : (sound_desk (said D) ps ls ≡ true) × (m.slot < (said D).plan.streams)
        × (answers (with_slot (said D) m.slot (kind_after m) (next_after m) (places_after (said D) m)) 0 0 ≡ move_desk (said D) ps ls m) × Nameable m
    made = move_made (said D) (wide_of (said D) sized) ps ls m (slim_of (said D) sized) (said_number _ D v h ∙ n)

    -- what its writing is told
    pub move_told : (desk_size ≤ length D) × Movable (desk_in (words_of D)) m
    unfolding said
    move_told = (
      omega (arith, h.right),
      sound_movable (said D) (wide_of (said D) sized) ps ls made.0 (slim_of (said D) sized) m made.3 made.1,
    )

    pub move_put : (r : FilmdiskAnswer) (t : List ℕ) → r ≡ verdict_answer v
        → (let d = desk_in (words_of D) in t ≡ with_words D 0 (desk_words (with_slot d m.slot (kind_after m) (next_after m) (places_after d m))))
        → (r ≡ move_answer D ps ls m) × (t ≡ move_string D ps ls m)
    unfolding move_answer move_string said
    move_put r t q e = (
      q ∙ judged_answer _ D v h,
      written_string _ D v h t (e ∙ ap (λ (y : Answer). with_words D 0 (desk_words y.desk)) made.2),
    )
