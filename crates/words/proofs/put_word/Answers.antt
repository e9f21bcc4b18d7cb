use borrow.Rule.Slice.PartMut.{put_mid}
use Rattle.std.specs.Prelude.{ℕ, ◌+◌, ◌-◌, ◌*◌, ◌<◌, ◌≡◌, List, [], ◌∷◌, ◌++◌, length, get_or, take}
use Rattle.std.proofs.Common.{sym, ap, ◌∙◌, arith, drop-drop}
use Rattle.laws.specs.Overwrite.{overwrite}
use Rattle.words.specs.Words.{words_of, with_word, bytes_of}
use Rattle.words.specs.Laws.{with_word_overwrite}
use Rattle.words.proofs.put_word.Goals as goal

-- four bytes in a row are an entry
stored : (s ys : List ℕ) (i v : ℕ) → i < length (words_of s) → ys ≡ bytes_of (v ∷ []) → put_mid (4 * i) (4 * i + 4 - 4 * i) s ys ≡ with_word s i v
unfolding overwrite bytes_of
stored s ys i v h e =
    let four : 4 * i + 4 - 4 * i ≡ 4 = omega arith in
    rw (four, e) (ap (λ (r : List ℕ). take (4 * i) s ++ (bytes_of (v ∷ []) ++ r)) (drop-drop 4 (4 * i) s) ∙ sym (with_word_overwrite s i v h))

pub returns : goal.returns
unfolding bytes_of
returns c =
    let taken = ap (λ (b : List ℕ). get_or b 0 0 ∷ (get_or b 1 0 ∷ (get_or b 2 0 ∷ (get_or b 3 0 ∷ [])))) c.to_le_bytes.ensures in
    stored _ _ _ _ c.requires (c.copy_from_slice.ensures.after ∙ taken)
