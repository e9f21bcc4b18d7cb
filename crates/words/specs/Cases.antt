-- Worked cases: entries are lowest byte first, spare bytes are no entry and stay.
use Rattle.std.specs.Prelude.{ℕ, ◌≡◌, refl, List, [], ◌∷◌}
use Rattle.words.specs.Words.{words_of, with_word, with_words, bytes_of}

-- two entries, 513 and 4278190080, and three spare bytes
abbrev pub sample : List ℕ
sample = 1 ∷ (2 ∷ (0 ∷ (0 ∷ (0 ∷ (0 ∷ (0 ∷ (255 ∷ (7 ∷ (8 ∷ (9 ∷ []))))))))))

pub record Cases : Type 0 where
  pub read : words_of sample ≡ 513 ∷ (4278190080 ∷ [])
  pub one : with_word sample 1 305419896 ≡ 1 ∷ (2 ∷ (0 ∷ (0 ∷ (120 ∷ (86 ∷ (52 ∷ (18 ∷ (7 ∷ (8 ∷ (9 ∷ []))))))))))
  pub two : with_words sample 0 (4294967295 ∷ (256 ∷ [])) ≡ 255 ∷ (255 ∷ (255 ∷ (255 ∷ (0 ∷ (1 ∷ (0 ∷ (0 ∷ (7 ∷ (8 ∷ (9 ∷ []))))))))))
  pub bytes : bytes_of (513 ∷ []) ≡ 1 ∷ (2 ∷ (0 ∷ (0 ∷ [])))

pub cases : Cases
unfolding words_of with_word with_words bytes_of
cases = record { read = refl; one = refl; two = refl; bytes = refl }
