-- What the code keeps of the rows: their cylinders and tracks in two arrays of 64, outermost first, and their count.
use Rattle.std.specs.Prelude.{ℕ, zero, suc, ◌+◌, ◌≤◌, ◌<◌, ◌≡◌, List, [], ◌∷◌, map, cond, length, get_or, set, ltb, Result, Ok, Err}
use Rattle.numbers.specs.Limits.{max_zones, max_cylinder, max_track}
use Rattle.card.specs.Read.{blank_zones}
use Rattle.maker_rows.specs.declared.Rows.{Rows}
use Rattle.maker_rows.specs.declared.RefusedRow.{RefusedRow}
use Rattle.maker_rows.specs.Rows.{Row, cylinders_of, Listed, Zones, Refused}

unfoldable pub no_rows : Rows
no_rows = record { count = 0; cylinders = blank_zones; tracks = blank_zones }

-- one row more
unfoldable pub kept_row : Rows → ℕ → ℕ → Rows
kept_row r c t =
    cond (ltb r.count max_zones)
    (record { count = r.count + 1; cylinders = set r.cylinders r.count c; tracks = set r.tracks r.count t })
    (record { count = r.count + 1; cylinders = r.cylinders; tracks = r.tracks })

-- g at n - 1, n - 2, .. 0
unfoldable pub back_by : ℕ → (ℕ → ℕ) → List ℕ
back_by zero g = []
back_by (suc n) g = g n ∷ back_by n g

-- the arrays hold the rows zs, of which the last comes first; where there are over 64, they only count
pub record Kept (r : Rows) (zs : List Row) : Type 0 where
  pub count : r.count ≡ length zs
  pub wide : (length r.cylinders ≡ max_zones) × (length r.tracks ≡ max_zones)
  pub same : length zs ≤ max_zones → (f : ℕ → ℕ → ℕ)
      → back_by (length zs) (λ k. f (get_or r.cylinders k 0) (get_or r.tracks k 0)) ≡ map (λ (z : Row). f (cylinders_of z) z.track) zs
  pub fits : (k : ℕ) → k < length zs → k < max_zones
      → (get_or r.cylinders k 0 ≤ max_cylinder + 1) × (0 < get_or r.tracks k 0) × (get_or r.tracks k 0 ≤ max_track)

-- the code's rows say what the text's are
abbrev pub Holds : Result Rows RefusedRow → Listed → Type 0
Holds (Ok r) (Zones zs) = Kept r zs
Holds (Err f) (Refused k line) = (0 < k) × (f.number ≡ k) × (f.line ≡ line)
Holds (Ok r) (Refused k line) = ⊥
Holds (Err f) (Zones zs) = ⊥
