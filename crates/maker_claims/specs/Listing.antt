-- A maker's text in plain facts (document 02, ticket 1): the lines of numbers that are in range and follow on, and give legal figures.
use Rattle.std.specs.Prelude.{ℕ, ◌+◌, ◌≤◌, ◌≡◌, List, [], ◌∷◌, ◌++◌}
use Rattle.numbers.specs.Limits.{max_turns, max_switch, max_heads, max_block, max_cylinder, max_track}
use Rattle.decimal.specs.Decimal.{decimal}
use Rattle.card.specs.Card.{Legal}
use Rattle.maker_lines.specs.declared.Drive.{Drive}
use Rattle.maker_lines.specs.Lines.{space, line_feed}
use Rattle.maker_rows.specs.Rows.{Row}
use Rattle.maker.specs.Maker.{figures_of}

-- ---- the text (T1.2 to T1.4)

-- a line of numbers: decimal without leading zeros, one space between, a line feed after them
unfoldable pub line_of : List ℕ → List ℕ
line_of [] = line_feed ∷ []
line_of (v ∷ []) = decimal v ++ (line_feed ∷ [])
line_of (v ∷ (w ∷ vs)) = decimal v ++ (space ∷ line_of (w ∷ vs))

-- line one: turns a minute, track switch time, heads, sectors in a block
unfoldable pub heading_line : Drive → List ℕ
heading_line d = line_of (d.turns ∷ d.switch ∷ d.heads ∷ d.block ∷ [])

-- a row: first cylinder, last cylinder, sectors a track
unfoldable pub row_line : Row → List ℕ
row_line z = line_of (z.first ∷ z.last ∷ z.track ∷ [])

unfoldable pub row_lines : List Row → List ℕ
row_lines [] = []
row_lines (z ∷ zs) = row_line z ++ row_lines zs

-- THE TEXT of line one and the rows, outermost zone first
unfoldable pub text_of : Drive → List Row → List ℕ
text_of d rows = heading_line d ++ row_lines rows

-- ---- the ranges

pub record DriveInRange (d : Drive) : Type 0 where
  pub turns : (1 ≤ d.turns) × (d.turns ≤ max_turns)
  pub switch : (1 ≤ d.switch) × (d.switch ≤ max_switch)
  pub heads : (1 ≤ d.heads) × (d.heads ≤ max_heads)
  pub block : (1 ≤ d.block) × (d.block ≤ max_block)

-- a row that starts at a cylinder, and is in range
pub record RowInRange (start : ℕ) (z : Row) : Type 0 where
  pub follows : z.first ≡ start
  pub rises : z.first ≤ z.last
  pub near : z.last ≤ max_cylinder
  pub tracks : (1 ≤ z.track) × (z.track ≤ max_track)

-- each row follows on the cylinder before; the first one starts at `start`
abbrev pub FollowOn : ℕ → List Row → Type 0
FollowOn start [] = Unit
FollowOn start (z ∷ zs) = RowInRange start z × FollowOn (z.last + 1) zs

-- ---- the zones

-- rows before others, in turn
unfoldable pub turned : List Row → List Row → List Row
turned [] zs = zs
turned (z ∷ rows) zs = turned rows (z ∷ zs)

-- the zones come out innermost first (T1.8)
unfoldable pub innermost_first : List Row → List Row
innermost_first rows = turned rows []

-- THE TEXT s IS THE LISTING of line one and these rows, and legal with N, c, hop and return beside it
pub record Listing (s : List ℕ) (n c hop ret : ℕ) (d : Drive) (rows : List Row) : Type 0 where
  pub text : s ≡ text_of d rows
  pub drive : DriveInRange d
  pub follow : FollowOn 0 rows
  pub legal : Legal 1 (figures_of d (innermost_first rows) n c hop ret)
