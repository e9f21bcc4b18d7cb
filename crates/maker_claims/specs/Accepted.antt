-- A maker's text is accepted exactly where it is a legal listing, and the answer are its figures.
-- Assumes nothing.
use Rattle.std.specs.Prelude.{ℕ, zero, suc, ◌+◌, ◌≤◌, ◌<◌, Bool, length, drop, ltb, Ok, Err}
use Rattle.std.proofs.Math.Path.{◌≡◌, refl, ap}
use mathlib.Core.List.{List, [], ◌∷◌, map}
use Rattle.std.proofs.Math.Bool.{true, false, cond}
use native.Mathlib.Omega.{arith}
use Rattle.std.proofs.Math.ListN.{length-append, length-drop}
use Rattle.numbers.specs.Limits.{max_zones}
use Rattle.numbers.specs.Refusals.{line_form, wrong_heading}
use Rattle.card.specs.Card.{Legal, record_fault}
use Rattle.card.specs.Read.{accepted, blank_zones}
use Rattle.card.specs.CardLaws.{fault_zones, length_one_film}
use Rattle.card_table.specs.TableLaws.{straight_long}
use Rattle.legality.specs.Legality.{Wide, fault_legal}
use Rattle.maker_lines.specs.declared.Drive.{Drive}
use Rattle.maker_lines.specs.Lines.{Heading, RowRead, heading_fits, judged_heading, heading_in, row_at}
use Rattle.maker_rows.specs.Rows.{Row, following, Listed, Zones, Refused, on_row, rows_from}
use Rattle.maker.specs.Maker.{padded, filled, positions_of, time_of, figures_of, refused_text, read_maker}
use Rattle.maker_lines.proofs.LineWays.{HeadingFacts, facts_heading}
use Rattle.maker_rows.proofs.RowWays.{then_each, row_number}

-- ---- a refusal has a number

abbrev Numbered : Heading → Type 0
Numbered h = (k : ℕ) → h ≡ Err k → 0 < k

pub heading_number : (s : List ℕ) → Numbered (heading_in s)
unfolding heading_in
heading_number s =
    then_each Numbered _ _ _ form (λ turns at₁.
    then_each Numbered _ _ _ form (λ switch at₂.
    then_each Numbered _ _ _ form (λ heads at₃.
    then_each Numbered _ _ _ form (λ block next.
    range turns switch heads block next))))
  where
    form : Numbered (Err line_form)
    form k e = let same : line_form ≡ k = cc in omega arith

    range : (turns switch heads block next : ℕ) → Numbered (judged_heading turns switch heads block next)
    range turns switch heads block next k e = go (heading_fits turns switch heads block) (unfold judged_heading in e)
      where
        go : (b : Bool) → cond {A = Heading} b (Ok (record { turns = turns; switch = switch; heads = heads; block = block }, next)) (Err wrong_heading) ≡ Err k → 0 < k
        go true e = absurd (let z : ◌≡◌ {A = ℕ} 0 1 = cc in omega arith)
        go false e = let same : wrong_heading ≡ k = cc in omega arith

pub rows_number : (left : ℕ) (s : List ℕ) (at : ℕ) (zs : List Row) (k line : ℕ) → rows_from left s at zs ≡ Refused k line → 0 < k
unfolding rows_from on_row
rows_number zero s at zs k line e = absurd (let z : ◌≡◌ {A = ℕ} 0 1 = cc in omega arith)
rows_number (suc left) s at zs k line e = go (ltb at (length s)) e (λ next z. rows_number left s next (z ∷ zs) k line)
  where
    Later : Type 0
    Later = (next : ℕ) (z : Row) → rows_from left s next (z ∷ zs) ≡ Refused k line → 0 < k

    more : ℕ → ℕ → ℕ → Listed
    more last track next = rows_from left s next (record { first = following zs; last = last; track = track } ∷ zs)

    on : (r : RowRead) → row_at (following zs) s at ≡ r → on_row (length zs + 2) r more ≡ Refused k line → Later → 0 < k
    on (Err j) q e later = let same : j ≡ k = cc in omega (arith, row_number (following zs) s at j q)
    on (Ok (last, track, next)) q e later = later next (record { first = following zs; last = last; track = track }) e

    go : (t : Bool) → cond t (on_row (length zs + 2) (row_at (following zs) s at) more) (Zones zs) ≡ Refused k line → Later → 0 < k
    go true e later = on (row_at (following zs) s at) refl e later
    go false e later = absurd (let z : ◌≡◌ {A = ℕ} 0 1 = cc in omega arith)

-- ---- the figures

map_long : (f : Row → ℕ) (zs : List Row) → length (map f zs) ≡ length zs
map_long f [] = refl
map_long f (z ∷ zs) = ap suc (map_long f zs)

padded_wide : (xs : List ℕ) → length xs ≤ max_zones → length (padded xs) ≡ max_zones
unfolding padded
padded_wide xs h = let blanks : length blank_zones ≡ max_zones = unfold blank_zones in refl in
    omega (arith, length-append xs (drop (length xs) blank_zones), length-drop (length xs) blank_zones)

module _ (d : Drive) (zs : List Row) (n c hop ret : ℕ) where
  figures_wide : length zs ≤ max_zones → Wide (figures_of d zs n c hop ret)
  unfolding figures_of filled
  figures_wide h = (
    padded_wide (map (positions_of d) zs) (omega (arith, map_long (positions_of d) zs)),
    padded_wide (map (time_of d) zs) (omega (arith, map_long (time_of d) zs)),
    length_one_film n,
    straight_long hop ret,
  )

  pub figures_legal : record_fault 1 (figures_of d zs n c hop ret) ≡ 0 → Legal 1 (figures_of d zs n c hop ret)
  figures_legal e = fault_legal 1 _ (figures_wide few) e
    where
      few : length zs ≤ max_zones
      few = unfold figures_of filled in fault_zones 1 (figures_of d zs n c hop ret) e

-- line one in range
pub judged_fits : (d : Drive) (next : ℕ) → HeadingFacts d.turns d.switch d.heads d.block
    → judged_heading d.turns d.switch d.heads d.block next ≡ Ok (d, next)
unfolding judged_heading
judged_fits d next f = rw (facts_heading d.turns d.switch d.heads d.block f)

-- ---- the two ways of an answer

-- a text is accepted: what was read of it, and the answer
pub record Accepts (s : List ℕ) (n c hop ret : ℕ) : Type 0 where
  pub drive : Drive
  pub next : ℕ
  pub zs : List Row
  pub heading_read_law : heading_in s ≡ Ok (drive, next)
  pub rows_read : rows_from (length s) s next [] ≡ Zones zs
  pub fault : record_fault 1 (figures_of drive zs n c hop ret) ≡ 0
  pub answer : read_maker s n c hop ret ≡ record { verdict = accepted; figures = figures_of drive zs n c hop ret }

-- or it is refused
pub record Refuses (s : List ℕ) (n c hop ret : ℕ) : Type 0 where
  pub number : ℕ
  pub line : ℕ
  pub answer : read_maker s n c hop ret ≡ refused_text (suc number) line
