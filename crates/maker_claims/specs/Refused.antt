-- A maker's text is refused by its first line at fault, or by its figures.
-- Assumes nothing.
use Prim.Native.Nat.{ℕ, ◌+◌, ◌<◌}
use Rattle.std.proofs.Math.Path.{◌≡◌, refl, sym}
use Rattle.std.proofs.Common.{inl, arith}
use Rattle.std.specs.Prelude.{◌⊎◌, Bool, true, false, cond, Option, Some, None, Ok, Err}
use Rattle.std.proofs.Math.Logic.{inr}
use mathlib.Core.List.{List, [], ◌++◌}
use Rattle.std.proofs.Math.ListN.{length, drop}
use Rattle.numbers.specs.Refusals.{wrong_heading, wrong_row}
use Rattle.maker_lines.specs.Lines.{Heading, RowRead, then_word, heading_fits, row_fits, judged_heading, judged_row, row_at}
use Rattle.maker_rows.specs.Rows.{Row, following}
use Rattle.maker_claims.specs.Listing.{row_lines, FollowOn, turned}

-- a refused line by its number
abbrev pub refused_heading : ℕ → Heading
refused_heading k = Err k

abbrev pub refused_row : ℕ → RowRead
refused_row k = Err k

-- ---- one line

-- an answer is the other one, or came from a number
pub then_ways : {A : Type 0} (G : Option (ℕ × ℕ)) (other : A) (go : ℕ → ℕ → A) {x : A} → then_word G other go ≡ x
    → (other ≡ x) ⊎ ((v : ℕ) × (next : ℕ) × (G ≡ Some (v, next)) × (go v next ≡ x))
unfolding then_word
then_ways (Some (v, next)) other go e = inr (v, next, refl, e)
then_ways None other go e = inl e

-- a row that is refused for its range is out of range
pub judged_out : (start from last track next k : ℕ) → judged_row start from last track next ≡ Err k
    → (k ≡ wrong_row) × (row_fits start from last track ≡ false)
unfolding judged_row
judged_out start from last track next k e = go (row_fits start from last track) refl e
  where
    go : (b : Bool) → row_fits start from last track ≡ b → cond {A = RowRead} b (Ok (last, track, next)) (Err wrong_row) ≡ Err k
        → (k ≡ wrong_row) × (row_fits start from last track ≡ false)
    go true q e = absurd (let z : ◌≡◌ {A = ℕ} 0 1 = cc in omega arith)
    go false q e = let same : wrong_row ≡ k = cc in (sym same, q)

-- line one that is refused for its range is out of range
pub judged_off : (turns switch heads block next k : ℕ) → judged_heading turns switch heads block next ≡ Err k
    → (k ≡ wrong_heading) × (heading_fits turns switch heads block ≡ false)
unfolding judged_heading
judged_off turns switch heads block next k e = go (heading_fits turns switch heads block) refl e
  where
    go : (b : Bool) → heading_fits turns switch heads block ≡ b
        → cond {A = Heading} b (Ok (record { turns = turns; switch = switch; heads = heads; block = block }, next)) (Err wrong_heading) ≡ Err k
        → (k ≡ wrong_heading) × (heading_fits turns switch heads block ≡ false)
    go true q e = absurd (let z : ◌≡◌ {A = ℕ} 0 1 = cc in omega arith)
    go false q e = let same : wrong_heading ≡ k = cc in (sym same, q)

-- ---- the rows before the one at fault

pub record RowsFault (s : List ℕ) (at : ℕ) (zs : List Row) (k line : ℕ) : Type 0 where
  pub rows : List Row
  pub stop : ℕ
  pub text : drop at s ≡ row_lines rows ++ drop stop s
  pub inside : stop < length s
  pub follow : FollowOn (following zs) rows
  pub counted : line ≡ length rows + length zs + 2
  pub fault : row_at (following (turned rows zs)) s stop ≡ Err k

pub fault_here : (s : List ℕ) (at : ℕ) (zs : List Row) (k line : ℕ) → at < length s → line ≡ length zs + 2 → row_at (following zs) s at ≡ Err k
    → RowsFault s at zs k line
unfolding row_lines turned
fault_here s at zs k line h l e = record { rows = []; stop = at; text = refl; inside = h; follow = tt; counted = omega arith; fault = e }
