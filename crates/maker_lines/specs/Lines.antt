-- The lines of a maker's text (document 02: T1.2 to T1.4): numbers in decimal with one space between and a line feed after each line.
-- The form of a line goes before its range (T1.13).
use Rattle.std.specs.Prelude.{ℕ, ◌+◌, List, Option, Some, None, Result, Ok, Err, Bool, cond, ◌&&◌, length, get_or, leb, ltb, eqb}
use Rattle.numbers.specs.Limits.{max_turns, max_switch, max_heads, max_block, max_cylinder, max_track}
use Rattle.numbers.specs.Refusals.{line_form, wrong_heading, wrong_row}
use Rattle.decimal.specs.Decimal.{number_at, capped_number}
use Rattle.maker_lines.specs.declared.Drive.{Drive}

abbrev pub space : ℕ
space = 32

abbrev pub line_feed : ℕ
line_feed = 10

-- ---- a number and the byte after it

unfoldable pub ended_by : ℕ → List ℕ → Option (ℕ × ℕ) → Option (ℕ × ℕ)
ended_by end s (Some (v, next)) = cond (ltb next (length s) && eqb (get_or s next 0) end) (Some (v, next + 1)) None
ended_by end s None = None

-- the number at an offset of the text s that ends with the byte `end`, and the offset after that byte
unfoldable pub word_at : ℕ → List ℕ → ℕ → Option (ℕ × ℕ)
word_at end s at = ended_by end s (number_at s at)

-- anything else is an answer at once; after a number, go goes on with its value and the offset after it
unfoldable pub then_word : {A : Type 0} → Option (ℕ × ℕ) → A → (ℕ → ℕ → A) → A
then_word None other go = other
then_word (Some (v, next)) other go = go v next

-- ---- the ranges

-- from 1 to the most
unfoldable pub within : ℕ → ℕ → Bool
within most v = leb 1 v && leb v most

-- line one (T1.2)
unfoldable pub heading_fits : ℕ → ℕ → ℕ → ℕ → Bool
heading_fits turns switch heads block = within max_turns turns && (within max_switch switch && (within max_heads heads && within max_block block))

-- a row: it follows on the cylinder before, its last cylinder is not below its first, and it is in range (T1.3, T1.13)
unfoldable pub row_fits : ℕ → ℕ → ℕ → ℕ → Bool
row_fits first from last track = eqb from first && (leb from last && (leb last max_cylinder && within max_track track))

-- line one and the offset after it, or a refusal's number
abbrev pub Heading : Type 0
Heading = Result (Drive × ℕ) ℕ

-- a row's last cylinder, its sectors a track and the offset after the line, or a refusal's number
abbrev pub RowRead : Type 0
RowRead = Result (ℕ × ℕ × ℕ) ℕ

unfoldable pub judged_heading : ℕ → ℕ → ℕ → ℕ → ℕ → Heading
judged_heading turns switch heads block next =
    cond (heading_fits turns switch heads block) (Ok (record { turns = turns; switch = switch; heads = heads; block = block }, next)) (Err wrong_heading)

unfoldable pub judged_row : ℕ → ℕ → ℕ → ℕ → ℕ → RowRead
judged_row first from last track next = cond (row_fits first from last track) (Ok (last, track, next)) (Err wrong_row)

-- ---- the lines

-- three numbers up to the end of a line, the last one's word ending with a line feed
abbrev pub then_three : {A : Type 0} → (ℕ → ℕ → Option (ℕ × ℕ)) → ℕ → A → (ℕ → ℕ → ℕ → ℕ → A) → A
then_three word at other go =
    then_word (word space at) other (λ a at₁.
    then_word (word space at₁) other (λ b at₂.
    then_word (word line_feed at₂) other (λ c next. go a b c next)))

-- the same as the code has them, the numbers capped
unfoldable pub three_read : List ℕ → ℕ → Option (ℕ × ℕ × ℕ × ℕ)
three_read s at = then_three (λ end from. capped_number (word_at end s from)) at None (λ a b c next. Some (a, b, c, next))

-- LINE ONE of the text s: turns a minute, track switch time, heads, sectors in a block
unfoldable pub heading_in : List ℕ → Heading
heading_in s =
    then_word (word_at space s 0) (Err line_form) (λ turns at.
    then_three (λ end from. word_at end s from) at (Err line_form) (λ switch heads block next.
    judged_heading turns switch heads block next))

-- A ROW at an offset of the text s that has to start at the cylinder `first`: first cylinder, last cylinder, sectors a track
unfoldable pub row_at : ℕ → List ℕ → ℕ → RowRead
row_at first s at =
    then_three (λ end from. word_at end s from) at (Err line_form) (λ from last track next.
    judged_row first from last track next)
