-- A record in words, by the table of its fields: a number takes one word, an array one for each entry, and each field starts where the one
-- before it ends.
use Rattle.std.specs.Prelude.{ℕ, ◌+◌, ◌≡◌, List, [], ◌∷◌, ◌++◌, length, get_or, take, drop}

pub data Field : Type 0 where
  word : Field
  array : ℕ → Field

-- ---- one field

abbrev pub Value : Field → Type 0
Value word = ℕ
Value (array n) = List ℕ

abbrev pub width : Field → ℕ
width word = 1
width (array n) = n

abbrev pub words_for : (f : Field) → Value f → List ℕ
words_for word v = v ∷ []
words_for (array n) a = a

-- its value, where it starts at word k
abbrev pub value_at : (f : Field) → ℕ → List ℕ → Value f
value_at word k ws = get_or ws k 0
value_at (array n) k ws = take n (drop k ws)

-- ---- a table of fields

-- a value for each, in their order
abbrev pub Values : List Field → Type 0
Values [] = Unit {0}
Values (f ∷ fs) = Value f × Values fs

infixr 40 ◌&◌
abbrev pub ◌&◌ : {A B : Type 0} → A → B → A × B
a & b = (a, b)

abbrev pub word_count : List Field → ℕ
word_count [] = 0
word_count (f ∷ fs) = width f + word_count fs

-- THE WORDS of a record, and THE RECORD in words from the k-th on
abbrev pub packed : (fs : List Field) → Values fs → List ℕ
packed [] vs = []
packed (f ∷ fs) (v, vs) = words_for f v ++ packed fs vs

abbrev pub unpacked : (fs : List Field) → ℕ → List ℕ → Values fs
unpacked [] k ws = tt
unpacked (f ∷ fs) k ws = (value_at f k ws, unpacked fs (k + width f) ws)

-- arrays have as many entries as the table says
abbrev pub Sized : (fs : List Field) → Values fs → Type 0
Sized [] vs = Unit {0}
Sized (f ∷ fs) (v, vs) = (length (words_for f v) ≡ width f) × Sized fs vs

-- ---- one table behind another

abbrev pub joined : (fs gs : List Field) → Values fs → Values gs → Values (fs ++ gs)
joined [] gs vs us = us
joined (f ∷ fs) gs (v, vs) us = (v, joined fs gs vs us)

abbrev pub front : (fs gs : List Field) → Values (fs ++ gs) → Values fs
front [] gs vs = tt
front (f ∷ fs) gs (v, vs) = (v, front fs gs vs)

abbrev pub behind : (fs gs : List Field) → Values (fs ++ gs) → Values gs
behind [] gs vs = vs
behind (f ∷ fs) gs (v, vs) = behind fs gs vs

-- ---- how code reads them, for its contracts

-- the same values, said field by field; in fours, since the search that proves it of code goes five deep
abbrev pub Same : (fs : List Field) → Values fs → Values fs → Type 0
Same [] vs us = Unit {0}
Same (e ∷ []) (a, vs) (b, us) = a ≡ b
Same (e ∷ (f ∷ [])) (a, (a₁, vs)) (b, (b₁, us)) = (a ≡ b) × (a₁ ≡ b₁)
Same (e ∷ (f ∷ (g ∷ []))) (a, (a₁, (a₂, vs))) (b, (b₁, (b₂, us))) = (a ≡ b) × (a₁ ≡ b₁) × (a₂ ≡ b₂)
Same (e ∷ (f ∷ (g ∷ (h ∷ fs)))) (a, (a₁, (a₂, (a₃, vs)))) (b, (b₁, (b₂, (b₃, us)))) = (a ≡ b) × (a₁ ≡ b₁) × (a₂ ≡ b₂) × (a₃ ≡ b₃) × Same fs vs us
