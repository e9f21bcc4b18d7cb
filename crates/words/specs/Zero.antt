-- Words that are all zero are bytes that are.
-- Assumes nothing.
use Rattle.std.specs.Prelude.{ℕ, zero, suc, ◌*◌, ◌≡◌, refl, List, ◌++◌, length, replicate}
use Rattle.std.proofs.Common.{ap, ◌∙◌, append-nil, arith, drop_of_length-le}
use Rattle.std.proofs.lemmas.List.{length-replicate}
use Rattle.laws.specs.Overwrite.{overwrite, overwrite_front}
use Rattle.words.specs.Words.{with_words, bytes_of}
use Rattle.words.specs.Laws.{words_length, with_words_overwrite}

bytes_zero : (n : ℕ) → bytes_of (replicate n 0) ≡ replicate (4 * n) 0
unfolding bytes_of
bytes_zero zero = refl
bytes_zero (suc n) = let e : 4 * suc n ≡ suc (suc (suc (suc (4 * n)))) = omega arith in rw (e, bytes_zero n)

-- a string of zeros
pub words_zero : (s : List ℕ) (n : ℕ) → length s ≡ 4 * n → with_words s 0 (replicate n 0) ≡ replicate (4 * n) 0
words_zero s n e =
    let l : length {A = ℕ} (replicate n 0) ≡ n = length-replicate {A = ℕ} n 0 in
    with_words_overwrite s 0 (replicate n 0) (omega (arith, words_length s))
    ∙ ap (λ (bs : List ℕ). overwrite s 0 bs) (bytes_zero n)
    ∙ overwrite_front s (replicate (4 * n) 0)
    ∙ ap (λ (t : List ℕ). replicate (4 * n) 0 ++ t) (drop_of_length-le s {i = length {A = ℕ} (replicate (4 * n) 0)}
    (omega (arith, length-replicate {A = ℕ} (4 * n) 0)))
    ∙ append-nil (replicate (4 * n) 0)
