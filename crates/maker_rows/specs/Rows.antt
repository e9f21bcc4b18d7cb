-- The rows of a maker's text, outermost zone first, to its end (document 02: T1.3, T1.8, T1.12 to T1.14).
use Rattle.std.specs.Prelude.{ℕ, zero, suc, ◌+◌, ◌-◌, List, [], ◌∷◌, cond, length, ltb, Ok, Err}
use Rattle.maker_lines.specs.Lines.{RowRead, row_at}

-- a row: first cylinder, last cylinder, sectors a track
pub record Row : Type 0 where
  pub first : ℕ
  pub last : ℕ
  pub track : ℕ

unfoldable pub cylinders_of : Row → ℕ
cylinders_of z = z.last - z.first + 1

-- the cylinder that follows on the last row; the first row starts at 0
unfoldable pub following : List Row → ℕ
following [] = 0
following (z ∷ zs) = z.last + 1

-- the rows as zones, innermost first; or a refusal's number and line
pub data Listed : Type 0 where
  Zones : List Row → Listed
  Refused : ℕ → ℕ → Listed

-- a refused row is the answer, with its line; after another, go goes on with its numbers and the offset after it
unfoldable pub on_row : ℕ → RowRead → (ℕ → ℕ → ℕ → Listed) → Listed
on_row line (Err k) go = Refused k line
on_row line (Ok (last, track, next)) go = go last track next

-- at most `left` more rows of the text s, from an offset on; zs are the rows before, the last one first. Line one is line 1
unfoldable pub rows_from : ℕ → List ℕ → ℕ → List Row → Listed
rows_from zero s at zs = Zones zs
rows_from (suc left) s at zs =
    cond (ltb at (length s))
    (on_row (length zs + 2) (row_at (following zs) s at) (λ last track next.
    rows_from left s next (record { first = following zs; last = last; track = track } ∷ zs)))
    (Zones zs)
