-- Lines as they are written are read as their numbers, and lines that are read are written so.
-- Assumes nothing.
use Rattle.std.specs.Prelude.{ℕ, suc, ◌+◌, ◌≤◌, ◌<◌, ◌≡◌, List, [], ◌∷◌, ◌++◌, false, length, get_or, drop, Some, Ok}
use Rattle.std.proofs.Common.{sym, ap, ap₂, ◌∙◌, append_assoc, arith, length-drop, drop_of_length-le, drop-cons, drop-drop, get_or-drop, lt-ltb, eq-eqb}
use Rattle.std.proofs.Math.Seq.{drop-append_seam}
use Rattle.decimal.specs.Decimal.{is_digit, decimal}
use Rattle.decimal.specs.DecimalLaws.{digit_below, decimal_read, read_decimal}
use Rattle.maker_lines.specs.Lines.{space, line_feed, ended_by, word_at, judged_row, row_at}
use Rattle.maker_rows.specs.Rows.{Row, following, Zones}
use Rattle.maker_lines.proofs.LineWays.{RowFacts, facts_row}
use Rattle.maker_rows.proofs.RowWays.{word_number, row_words}
use Rattle.maker_claims.specs.Listing.{line_of, row_lines, FollowOn, turned}

-- ---- a number and the byte after it

pub space_ends : is_digit space ≡ false
space_ends = digit_below space (omega arith)

pub feed_ends : is_digit line_feed ≡ false
feed_ends = digit_below line_feed (omega arith)

-- a text that has a byte at an offset
byte_there : (s : List ℕ) (at b : ℕ) (rest : List ℕ) → drop at s ≡ b ∷ rest → (at < length s) × (get_or s at 0 ≡ b) × (drop (at + 1) s ≡ rest)
byte_there s at b rest e =
    let long : length (drop at s) ≡ suc (length rest) = ap length e in
    let here : at + 0 ≡ at = omega arith in (
      omega (arith, length-drop at s),
      sym (ap (λ (n : ℕ). get_or s n 0) here) ∙ sym (get_or-drop at s 0 0) ∙ ap (λ (x : List ℕ). get_or x 0 0) e,
      sym (drop-drop 1 at s) ∙ ap (λ (x : List ℕ). drop 1 x) e,
    )

-- a number that is written is read, and what follows it is left
pub word_spelled : (end : ℕ) → is_digit end ≡ false → (s : List ℕ) (at v : ℕ) (rest : List ℕ) → drop at s ≡ decimal v ++ (end ∷ rest)
    → (next : ℕ) × (word_at end s at ≡ Some (v, next)) × (drop next s ≡ rest)
unfolding word_at ended_by
word_spelled end none s at v rest e =
    let past : drop (at + length (decimal v)) s ≡ end ∷ rest = sym (drop-drop (length (decimal v)) at s) ∙ ap (drop (length (decimal v))) e
    ∙ drop-append_seam (decimal v) (end ∷ rest) in
    let there = byte_there s (at + length (decimal v)) end rest past in
    let read = decimal_read s at v end rest none e in (
      at + length (decimal v) + 1,
      rw (read, lt-ltb (at + length (decimal v)) (length s) there.0, eq-eqb (get_or s (at + length (decimal v)) 0) end there.1),
      there.2,
    )

-- a number that is read is written so
pub word_spelling : (end : ℕ) (s : List ℕ) (at v next : ℕ) → word_at end s at ≡ Some (v, next) → drop at s ≡ decimal v ++ (end ∷ drop next s)
word_spelling end s at v next e =
    let w = word_number end s at v next e in
    let m = w.0 in
    let after : suc m ≡ next = omega (arith, w.4) in
    (read_decimal s at v m w.1).1
    ∙ ap (λ (x : List ℕ). decimal v ++ x) (drop-cons s m 0 w.2 ∙ ap₂ (λ (b : ℕ) (x : List ℕ). b ∷ x) w.3 (ap (λ (n : ℕ). drop n s) after))

-- ---- lines

pub line_last : (v : ℕ) (rest : List ℕ) → line_of (v ∷ []) ++ rest ≡ decimal v ++ (line_feed ∷ rest)
unfolding line_of
line_last v rest = append_assoc (decimal v) (line_feed ∷ []) rest

pub line_next : (v w : ℕ) (vs rest : List ℕ) → line_of (v ∷ (w ∷ vs)) ++ rest ≡ decimal v ++ (space ∷ (line_of (w ∷ vs) ++ rest))
unfolding line_of
line_next v w vs rest = append_assoc (decimal v) (space ∷ line_of (w ∷ vs)) rest

-- ---- the rows

-- a row that is read starts in the text
pub row_inside : (start : ℕ) (s : List ℕ) (at last track next : ℕ) → row_at start s at ≡ Ok (last, track, next) → at < length s
row_inside start s at last track next e =
    let w = row_words start s at last track next e in
    let m = word_number space s at start w.at₁ w.one in
    omega (arith, (read_decimal s at start m.0 m.1).0, m.2)

-- a row in range is a zone
pub judged_fits : (start from last track next : ℕ) → RowFacts start from last track → judged_row start from last track next ≡ Ok (last, track, next)
unfolding judged_row
judged_fits start from last track next f = rw (facts_row start from last track f)

-- what is read of a text from an offset on
pub record Spelled (s : List ℕ) (at : ℕ) (zs zs' : List Row) : Type 0 where
  pub rows : List Row
  pub text : drop at s ≡ row_lines rows
  pub follow : FollowOn (following zs) rows
  pub zones : turned rows zs ≡ zs'

pub spelled_none : (s : List ℕ) (at : ℕ) (zs zs' : List Row) → length s ≤ at → Zones zs ≡ Zones zs' → Spelled s at zs zs'
unfolding row_lines turned
spelled_none s at zs zs' h e = let same : zs ≡ zs' = cc in record { rows = []; text = drop_of_length-le s h; follow = tt; zones = same }
