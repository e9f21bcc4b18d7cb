-- A desk written over a whole string: nothing of what the string held is left.
-- Assumes nothing.
use Rattle.std.specs.Prelude.{ℕ, ◌*◌, ◌≡◌, refl, List, [], ◌∷◌, ◌++◌, length}
use Rattle.std.proofs.Common.{sym, ap, ◌∙◌, arith, drop_of_length-le}
use Rattle.laws.specs.Overwrite.{overwrite_front}
use Rattle.words.specs.Words.{with_words, bytes_of}
use Rattle.words.specs.Laws.{words_length, with_words_overwrite}
use Rattle.desk.specs.declared.Desk.{Desk}
use Rattle.fields.specs.FieldLaws.{packed_length}
use Rattle.desk_layout.specs.Layout.{desk_fields, desk_values, desk_words, desk_word_count, desk_size}
use Rattle.desk_layout.specs.RoundTrip.{DeskSized}

bytes_long : (vs : List ℕ) → length (bytes_of vs) ≡ 4 * length vs
unfolding bytes_of
bytes_long [] = refl
bytes_long (v ∷ vs) = omega (arith, bytes_long vs)

-- words that fill a string are all of it
whole : (s vs : List ℕ) → length s ≡ 4 * length vs → with_words s 0 vs ≡ bytes_of vs ++ []
whole s vs l =
    with_words_overwrite s 0 vs (omega (arith, words_length s))
    ∙ overwrite_front s (bytes_of vs)
    ∙ ap (λ (r : List ℕ). bytes_of vs ++ r) (drop_of_length-le s {i = length (bytes_of vs)} (omega (arith, bytes_long vs)))

desk_long : (e : Desk) → DeskSized e → length (desk_words e) ≡ desk_word_count
unfolding desk_words
desk_long e z = packed_length desk_fields (desk_values e) (omega arith)

-- over one string of a desk's length or over another, it is the same
pub same_written : (s t : List ℕ) (e : Desk) → DeskSized e → length s ≡ desk_size → length t ≡ desk_size
    → with_words s 0 (desk_words e) ≡ with_words t 0 (desk_words e)
same_written s t e z k l =
    let n = desk_long e z in
    whole s (desk_words e) (omega arith) ∙ sym (whole t (desk_words e) (omega arith))
