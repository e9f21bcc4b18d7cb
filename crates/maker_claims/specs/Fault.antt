-- A refused maker's text in plain facts (T1.12 to T1.14): the first line at fault, and why; or a listing whose figures are refused.
use Rattle.std.specs.Prelude.{ℕ, ◌+◌, ◌≡◌, ◌⊎◌, List, [], ◌++◌, length}
use Rattle.numbers.specs.Refusals.{line_form, wrong_heading, wrong_row}
use Rattle.card.specs.Card.{record_fault}
use Rattle.maker_lines.specs.declared.Drive.{Drive}
use Rattle.maker_rows.specs.Rows.{Row, following}
use Rattle.maker.specs.Maker.{figures_of}
use Rattle.maker_claims.specs.Listing.{heading_line, row_line, text_of, DriveInRange, RowInRange, FollowOn, innermost_first}

-- the bytes left start with no good line one: 22 where it has another form or there is none, 23 where its numbers are out of range
abbrev pub HeadingFault : List ℕ → ℕ → Type 0
HeadingFault left k =
    ((k ≡ line_form) × ((d : Drive) (rest : List ℕ) → left ≡ heading_line d ++ rest → ⊥))
    ⊎ ((k ≡ wrong_heading) × (d : Drive) × (rest : List ℕ) × (left ≡ heading_line d ++ rest) × (DriveInRange d → ⊥))

-- they start with no good row, which would start at a cylinder: 22 and 24
abbrev pub RowFault : ℕ → List ℕ → ℕ → Type 0
RowFault start left k =
    ((k ≡ line_form) × ((z : Row) (rest : List ℕ) → left ≡ row_line z ++ rest → ⊥))
    ⊎ ((k ≡ wrong_row) × (z : Row) × (rest : List ℕ) × (left ≡ row_line z ++ rest) × (RowInRange start z → ⊥))

-- the lines before the one at fault are good, and it is there
pub record FaultAfter (s : List ℕ) (k line : ℕ) : Type 0 where
  pub drive : Drive
  pub rows : List Row
  pub left : List ℕ
  pub text : s ≡ text_of drive rows ++ left
  pub some : left ≡ [] → ⊥
  pub good : DriveInRange drive × FollowOn 0 rows
  pub counted : line ≡ length rows + 2
  pub fault : RowFault (following (innermost_first rows)) left k

-- all lines are good, and the figures are refused as those of a record
pub record FaultOfFigures (s : List ℕ) (n c hop ret k : ℕ) : Type 0 where
  pub drive : Drive
  pub rows : List Row
  pub text : s ≡ text_of drive rows
  pub good : DriveInRange drive × FollowOn 0 rows
  pub fault : record_fault 1 (figures_of drive (innermost_first rows) n c hop ret) ≡ k

-- WHY A TEXT IS REFUSED, by number and line
abbrev pub Fault : List ℕ → ℕ → ℕ → ℕ → ℕ → ℕ → ℕ → Type 0
Fault s n c hop ret k line = ((line ≡ 1) × HeadingFault s k) ⊎ (FaultAfter s k line ⊎ ((line ≡ 0) × FaultOfFigures s n c hop ret k))
