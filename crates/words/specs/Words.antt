-- Lists of 32-bit numbers in byte strings: four bytes an entry, lowest byte first, no padding. Whole entries count; spare bytes at the end are no entry.
use Rattle.std.specs.Prelude.{ℕ, ◌+◌, ◌*◌, ◌/◌, ◌%◌, ◌<◌, List, [], ◌∷◌, get_or, set, replicate}

-- every element is a byte
abbrev pub Bytes : List ℕ → Type 0
Bytes s = (i : ℕ) → get_or s i 0 < 256

-- every element has 32 bits
abbrev pub Words : List ℕ → Type 0
Words vs = (i : ℕ) → get_or vs i 0 < 4294967296

-- the whole entries of a byte string
unfoldable pub words_of : List ℕ → List ℕ
words_of [] = []
words_of (a ∷ []) = []
words_of (a ∷ (b ∷ [])) = []
words_of (a ∷ (b ∷ (c ∷ []))) = []
words_of (a ∷ (b ∷ (c ∷ (d ∷ s)))) = (a + 256 * b + 65536 * c + 16777216 * d) ∷ words_of s

-- s with v as the entry i
unfoldable pub with_word : List ℕ → ℕ → ℕ → List ℕ
with_word s i v =
    set (set (set (set s (4 * i) (v % 256)) (4 * i + 1) (v / 256 % 256)) (4 * i + 2) (v / 65536 % 256)) (4 * i + 3) (v / 16777216 % 256)

-- s with vs as the entries from start on
unfoldable pub with_words : List ℕ → ℕ → List ℕ → List ℕ
with_words s start [] = s
with_words s start (v ∷ vs) = with_words (with_word s start v) (start + 1) vs

-- so many numbers, all zero
unfoldable pub zero_words : ℕ → List ℕ
zero_words n = replicate n 0

-- the bytes of a list of numbers
unfoldable pub bytes_of : List ℕ → List ℕ
bytes_of [] = []
bytes_of (v ∷ vs) = v % 256 ∷ (v / 256 % 256 ∷ (v / 65536 % 256 ∷ (v / 16777216 % 256 ∷ bytes_of vs)))
