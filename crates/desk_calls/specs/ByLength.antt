-- A desk string D by its length: answered and written back, or refused and left.
-- Assumes nothing.
use Rattle.std.specs.Prelude.{ℕ, ◌≤◌, ◌≡◌, List, length}
use Rattle.std.proofs.Common.{arith, eq-eqb, ne_eqb}
use Rattle.numbers.specs.Refusals.{not_sound}
use Rattle.words.specs.Words.{words_of, with_words}
use Rattle.words.specs.Laws.{words_length}
use Rattle.desk.specs.declared.Desk.{Desk}
use Rattle.desk.specs.View.{Wide}
use Rattle.layout.specs.declared.FilmdiskAnswer.{FilmdiskAnswer}
use Rattle.desk_layout.specs.Layout.{desk_words, desk_word_count, desk_size}
use Rattle.desk_layout.specs.RoundTrip.{DeskSized, desk_sized}
use Rattle.desk_calls.specs.Calls.{refused_by, said, answer_by, string_by}

module _ (D : List ℕ) where
  module _ (l : length D ≡ desk_size) where
    -- it has the words of a desk
    pub enough : desk_word_count ≤ length (words_of D)
    enough = omega (arith, words_length D, l)

    -- the desk that it says has 256 slots
    pub said_sized : DeskSized (said D)
    unfolding said
    said_sized = desk_sized (words_of D) enough

    pub said_wide : Wide (said D)
    said_wide = let s = said_sized in record { kinds = s.kinds; next = s.next; held = s.held; places = s.places }

    pub right_answer : (a : FilmdiskAnswer) → answer_by D a ≡ a
    unfolding answer_by
    right_answer a = rw (eq-eqb (length D) desk_size l)

    pub right_string : (d : Desk) → string_by D d ≡ with_words D 0 (desk_words d)
    unfolding string_by
    right_string d = rw (eq-eqb (length D) desk_size l)

  module _ (n : length D ≡ desk_size → ⊥) where
    pub other_answer : (a : FilmdiskAnswer) → answer_by D a ≡ refused_by not_sound
    unfolding answer_by
    other_answer a = rw (ne_eqb (length D) desk_size n)

    pub other_string : (d : Desk) → string_by D d ≡ D
    unfolding string_by
    other_string d = rw (ne_eqb (length D) desk_size n)
