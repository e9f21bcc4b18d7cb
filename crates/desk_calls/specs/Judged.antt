-- A call on a desk string D: of another length, judged and refused, or accepted and written.
-- Assumes nothing.
use Rattle.std.specs.Prelude.{ℕ, ◌≡◌, List, length, get_or}
use Rattle.std.proofs.Common.{sym, ap, ◌∙◌, Fits}
use Rattle.std.specs.Int.{w8}
use Rattle.numbers.specs.Refusals.{not_sound}
use Rattle.words.specs.Words.{words_of, with_words}
use Rattle.words.specs.Laws.{bytes_fit}
use Rattle.card.specs.declared.Verdict.{Verdict}
use Rattle.legality.specs.Legality as legality
use Rattle.desk.specs.declared.Desk.{Desk}
use Rattle.desk.specs.declared.Answer.{Answer}
use Rattle.desk.specs.View.{Wide}
use Rattle.desk.specs.Records.{answers}
use Rattle.layout.specs.declared.FilmdiskAnswer.{FilmdiskAnswer}
use Rattle.layout.specs.Answers.{verdict_answer}
use Rattle.desk_layout.specs.Layout.{desk_words, desk_in, desk_size}
use Rattle.desk_layout.specs.RoundTrip.{DeskSized, desk_kept}
use Rattle.desk_calls.specs.ByLength.{enough, right_answer, right_string, other_answer, other_string}
use Rattle.desk_calls.specs.Calls.{refused_by, said, answer_by, string_by}

-- ---- sizes

pub wide_of : (d : Desk) → DeskSized d → Wide d
wide_of d z = record { kinds = z.kinds; next = z.next; held = z.held; places = z.places }

pub slim_of : (d : Desk) → DeskSized d → legality.Wide d.plan.figures
slim_of d z = (z.plan.positions, z.plan.times, z.plan.blocks, z.plan.table)

-- ---- any call, by what it makes of a desk

-- a string of another length
pub other_call : (D : List ℕ) (a : FilmdiskAnswer) (d : Desk) (r : FilmdiskAnswer) → (length D ≡ desk_size → ⊥) → r ≡ refused_by not_sound
    → (r ≡ answer_by D a) × (D ≡ string_by D d)
other_call D a d r o e = (e ∙ sym (other_answer D o a), sym (other_string D o d))

-- v is the verdict on the desk in D
pub record Judged (f : Desk → Answer) (D : List ℕ) (v : Verdict) : Type 0 where
  pub right : length D ≡ desk_size
  pub verdict : v ≡ (f (desk_in (words_of D))).verdict
  -- D is bytes, as the checker knows of a string
  pub bytes : (i : ℕ) → Fits w8 (get_or D i 0)

module _ (f : Desk → Answer) (D : List ℕ) (v : Verdict) (h : Judged f D v) where
  pub judged_said : v ≡ (f (said D)).verdict
  unfolding said
  judged_said = h.verdict

  pub said_number : (f (said D)).verdict.number ≡ v.number
  said_number = ap (λ (u : Verdict). u.number) (sym judged_said)

  pub judged_answer : verdict_answer v ≡ answer_by D (verdict_answer (f (said D)).verdict)
  judged_answer = ap verdict_answer judged_said ∙ sym (right_answer D h.right _)

  -- what a call wrote is its desk; a refused one, which answers the desk it was given, wrote nothing
  pub written_string : (t : List ℕ) → t ≡ with_words D 0 (desk_words (f (said D)).desk) → t ≡ string_by D (f (said D)).desk
  written_string t e = e ∙ sym (right_string D h.right _)

  pub refused_string : (f (said D)).desk ≡ said D → D ≡ string_by D (f (said D)).desk
  unfolding said
  refused_string e = written_string D (sym (ap (λ (x : Desk). with_words D 0 (desk_words x)) e ∙ desk_kept D (bytes_fit D h.bytes) (enough D h.right)))
