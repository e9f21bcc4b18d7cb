-- Each way that the reader can take.
-- Assumes nothing.
use Prim.Native.Nat.{ℕ, zero, suc, ◌+◌, ◌≤◌, ◌<◌}
use mathlib.Core.Path.{◌≡◌, refl, sym, ap, ◌∙◌}
use mathlib.Core.List.{List}
use native.Mathlib.Omega.{arith}
use lib.ListN.{length, get_or, set}
use borrow.Author.Tests.{lt-ltb, le-ltb, eq-eqb, ne_eqb}
use Rattle.numbers.specs.Limits.{straight_kind, max_zones, max_positions, max_time, max_blocks, max_films, max_bytes, max_rate, max_move, table_length}
use Rattle.numbers.specs.Refusals.{card_goes_on}
use Rattle.leb128.specs.declared.Number.{Number}
use Rattle.leb128.specs.declared.Number.TheVariants as number
use Rattle.leb128.specs.Number.{number_at}
use Rattle.card.specs.declared.Figures.{Figures}
use Rattle.card.specs.declared.CardRead.{CardRead}
use Rattle.card_field.specs.declared.Rule.TheVariants.{Zones, Positions, Films, Measure}
use Rattle.std.specs.Prelude.{Result, Ok, Err, IfErr}
use Rattle.numbers.specs.declared.refusals.Refused as placed
use Rattle.numbers.specs.Numbered.{number_of}
use Rattle.card_field.specs.RangeLaws.{positions_range, zones_range, films_range, blocks_range, measure_range}
use Rattle.card_field.specs.Ranges.{fault_of, time_fault, blocks_fault}
use Rattle.card_field.specs.Figure.{Field, Value, Refused, field_in, on_fault, on_number, field_at}
use Rattle.card.specs.Read.{blank_zones, blank_table, then_field, refused_card, card_end, row_from, moves_from, entries_from, table_from, shelf_from, film_from, zones_from}
use Rattle.card_reader.specs.Told.{accepted_card, told_in, told_card, row_with, zones_with, shelf_with}

module _ {F G : Field} (same : F ≡ G) where
  pub card_stops : (go go' : ℕ → ℕ → CardRead) {k o : ℕ} → F ≡ Refused k o → then_field F go' ≡ then_field G go
  unfolding then_field
  card_stops go go' e = ap (λ (x : Field). then_field x go') e ∙ ap (λ (x : Field). then_field x go) (sym e ∙ same)

  pub card_goes : (go : ℕ → ℕ → CardRead) {v next : ℕ} → F ≡ Value v next → go v next ≡ then_field G go
  unfolding then_field
  card_goes go e = ap (λ (x : Field). then_field x go) (sym e ∙ same)

-- a refusal that is handed on ends the card as it ended what was read
abbrev ended : placed.Refused → CardRead
ended e = refused_card (number_of e.refusal) e.place

module _ {r : placed.Refused} {S : Result (ℕ × ℕ) placed.Refused} (was : S ≡ Err r) (go : ℕ → ℕ → CardRead) where
  ends_so : ended r ≡ then_field (field_in S) go
  unfolding then_field
  ends_so = ap (λ (x : Result (ℕ × ℕ) placed.Refused). then_field (field_in x) go) (sym was)

  pub handed_card : (ps ts ns os : List ℕ) (R : Result (ℕ × ℕ × ℕ × ℕ × ℕ) placed.Refused) → IfErr S (λ e. R ≡ Err e)
      → told_card ps ts ns os (told_in R) ≡ then_field (field_in S) go
  unfolding told_card
  handed_card ps ts ns os R h =
      let e : R ≡ Err r = rw was at h in ap (λ (x : Result (ℕ × ℕ × ℕ × ℕ × ℕ) placed.Refused). told_card ps ts ns os (told_in x)) e ∙ ends_so

-- what is read goes on with the rest
module _ {S : Result (ℕ × ℕ) placed.Refused} {v next : ℕ} (was : S ≡ Ok (v, next)) where
  pub row_goes : (vs : List ℕ) (go : List ℕ → ℕ → CardRead) → go vs next ≡ row_with vs (field_in S) go
  row_goes vs go = card_goes refl (λ u after. go vs after) (ap field_in was)

  pub shelf_goes : (ns : List ℕ) (go : ℕ → List ℕ → ℕ → CardRead) → go v ns next ≡ shelf_with ns (field_in S) go
  shelf_goes ns go = card_goes refl (λ films after. go films ns after) (ap field_in was)

  pub zones_go : (ps ts : List ℕ) (go : List ℕ → List ℕ → ℕ → ℕ → CardRead) → go ps ts v next ≡ zones_with ps ts (field_in S) go
  zones_go ps ts go = card_goes refl (go ps ts) (ap field_in was)

-- after the films B is left, and after B and c the overheads
module _ (k : ℕ) (s : List ℕ) (at total : ℕ) {S : Result (ℕ × ℕ) placed.Refused} {films at₁ : ℕ} (shelf : S ≡ Ok (films, at₁)) (ns : List ℕ)
    (read : (go : ℕ → List ℕ → ℕ → CardRead) → shelf_with ns (field_in S) go ≡ shelf_from k s at total go) where
  pub bytes_left : (go : ℕ → List ℕ → ℕ → CardRead) → go films ns at₁ ≡ shelf_from k s at total go
  bytes_left go = shelf_goes shelf ns go ∙ read go

  module _ {B C : Result (ℕ × ℕ) placed.Refused} {b at₂ c at₃ : ℕ} (bytes : B ≡ Ok (b, at₂)) (e : field_in B ≡ field_at (fault_of Measure max_bytes) s at₁)
      (rate : C ≡ Ok (c, at₃)) (d : field_in C ≡ field_at (fault_of Measure max_rate) s at₂) where
    pub overheads_left : (go : ℕ → List ℕ → ℕ → ℕ → ℕ → CardRead) → go films ns b c at₃ ≡ film_from k s at total go
    unfolding film_from
    overheads_left go =
        card_goes d (go films ns b) (ap field_in rate)
        ∙ card_goes e (λ u after. then_field (field_at (fault_of Measure max_rate) s after) (go films ns u)) (ap field_in bytes)
        ∙ bytes_left (λ m ms start. then_field (field_at (fault_of Measure max_bytes) s start) (λ u after.
        then_field (field_at (fault_of Measure max_rate) s after) (go m ms u)))

module _ (s : List ℕ) (at : ℕ) (f : Figures) where
  pub end_left : at < length s → refused_card card_goes_on at ≡ card_end s at f
  unfolding card_end
  end_left h = rw (lt-ltb _ _ h)

  pub end_none : length s ≤ at → accepted_card f ≡ card_end s at f
  unfolding card_end
  end_none h = rw (le-ltb _ _ h)

-- the zones, one by one
module _ (s : List ℕ) (at i : ℕ) (ps ts : List ℕ) (total before : ℕ) (go : List ℕ → List ℕ → ℕ → ℕ → CardRead) where
  pub read_done : (left : ℕ) → left ≤ 0 → go ps ts total at ≡ zones_from left s at i ps ts total before go
  unfolding zones_from
  read_done zero h = refl
  read_done (suc left) h = absurd (omega arith)

  module _ (left : ℕ) {F : Field} (positions : F ≡ field_at (fault_of Positions total) s at) where
    pub read_few : 0 < left → (stop : ℕ → ℕ → CardRead) {k o : ℕ} → F ≡ Refused k o → then_field F stop ≡ zones_from left s at i ps ts total before go
    read_few h stop e = by left h
      where
        by : (left : ℕ) → 0 < left → then_field F stop ≡ zones_from left s at i ps ts total before go
        by zero h = absurd (omega arith)
        by (suc left) h = unfold zones_from in card_stops positions _ stop e

    module _ {p middle : ℕ} (read : F ≡ Value p middle) {G : Field} (time : G ≡ field_at (time_fault (get_or ts 0 0) before) s middle) where
      pub read_slow : 0 < left → (stop : ℕ → ℕ → CardRead) {k o : ℕ} → G ≡ Refused k o → then_field G stop ≡ zones_from left s at i ps ts total before go
      read_slow h stop e = by left h
        where
          by : (left : ℕ) → 0 < left → then_field G stop ≡ zones_from left s at i ps ts total before go
          by zero h = absurd (omega arith)
          by (suc left) h = unfold zones_from in card_stops time _ stop e ∙ card_goes positions _ read

      pub read_more : (k : ℕ) → left ≡ k + 1 → {t next : ℕ} → G ≡ Value t next
          → zones_from k s next (i + 1) (set ps i p) (set ts i t) (total + p) t go ≡ zones_from left s at i ps ts total before go
      read_more k h {t} {next} e = by left h
        where
          by : (left : ℕ) → left ≡ k + 1 → zones_from k s next (i + 1) (set ps i p) (set ts i t) (total + p) t go ≡ zones_from left s at i ps ts total before go
          by zero h = absurd (omega arith)
          by (suc left) h =
              let q : k ≡ left = omega arith in
              ap (λ (x : ℕ). zones_from x s next (i + 1) (set ps i p) (set ts i t) (total + p) t go) q
              ∙ (unfold zones_from in card_goes time _ e ∙ card_goes positions _ read)

-- numbers in a row, one by one
module _ {A : Type 0} (judge : A → ℕ → ℕ) (after : A → ℕ → A) (s : List ℕ) (at : ℕ) (x : A) (k : ℕ) (vs : List ℕ) (go : List ℕ → ℕ → CardRead) where
  pub row_done : (left : ℕ) → left ≤ 0 → go vs at ≡ row_from judge after left s at x k vs go
  unfolding row_from
  row_done zero h = refl
  row_done (suc left) h = absurd (omega arith)

  module _ (left : ℕ) {F : Field} (number : F ≡ field_at (judge x) s at) where
    pub row_stop : 0 < left → (stop : ℕ → ℕ → CardRead) {j o : ℕ} → F ≡ Refused j o → then_field F stop ≡ row_from judge after left s at x k vs go
    row_stop h stop e = by left h
      where
        by : (left : ℕ) → 0 < left → then_field F stop ≡ row_from judge after left s at x k vs go
        by zero h = absurd (omega arith)
        by (suc left) h = unfold row_from in card_stops number _ stop e

    pub row_more : (j : ℕ) → left ≡ j + 1 → {v next : ℕ} → F ≡ Value v next
        → row_from judge after j s next (after x v) (k + 1) (set vs k v) go ≡ row_from judge after left s at x k vs go
    row_more j h {v} {next} e = by left h
      where
        by : (left : ℕ) → left ≡ j + 1 → row_from judge after j s next (after x v) (k + 1) (set vs k v) go ≡ row_from judge after left s at x k vs go
        by zero h = absurd (omega arith)
        by (suc left) h =
            let q : j ≡ left = omega arith in
            ap (λ (n : ℕ). row_from judge after n s next (after x v) (k + 1) (set vs k v) go) q ∙ (unfold row_from in card_goes number _ e)

-- zones are read into arrays that are all zero
pub zones_blank : (left : ℕ) (s : List ℕ) (at : ℕ) (go : List ℕ → List ℕ → ℕ → ℕ → CardRead) {ps ts : List ℕ} → ps ≡ blank_zones → ts ≡ blank_zones
    → zones_from left s at 0 ps ts 0 max_time go ≡ zones_from left s at 0 blank_zones blank_zones 0 max_time go
zones_blank left s at go p t = λ i. zones_from left s at 0 (p i) (t i) 0 max_time go

pub blank_long : length blank_table ≡ table_length
unfolding blank_table
blank_long = refl

-- the overheads, by the kind
module _ (kind : ℕ) (s : List ℕ) (at : ℕ) (go : List ℕ → ℕ → CardRead) where
  pub table_moves : kind ≡ straight_kind → moves_from s at go ≡ table_from kind s at go
  unfolding table_from
  table_moves e = rw (eq-eqb kind straight_kind e)

  pub table_entries : (kind ≡ straight_kind → ⊥) → entries_from s at go ≡ table_from kind s at go
  unfolding table_from
  table_entries n = rw (ne_eqb kind straight_kind n)

-- the value of a figure that is read is not refused
pub field_judged : (judge : ℕ → ℕ) (s : List ℕ) (at : ℕ) {v next : ℕ} {F : Field} → F ≡ field_at judge s at → F ≡ Value v next → judge v ≡ 0
unfolding field_at on_number on_fault
field_judged judge s at {v} {next} e h = go (number_at s at) (sym e ∙ h)
  where
    on : (k w m : ℕ) → judge w ≡ k → on_fault k at w m ≡ Value v next → judge v ≡ 0
    on zero w m q e = let same : w ≡ v = cc in rw same at q
    on (suc k) w m q e = absurd (let z : ◌≡◌ {A = ℕ} 0 1 = cc in omega arith)

    go : (n : Number) → on_number judge at n ≡ Value v next → judge v ≡ 0
    go (number.Value w m) e = on (judge w) w m refl e
    go (number.CutOff size) e = absurd (let z : ◌≡◌ {A = ℕ} 0 1 = cc in omega arith)
    go (number.Malformed start) e = absurd (let z : ◌≡◌ {A = ℕ} 0 1 = cc in omega arith)

pub field_fits : (total : ℕ) (s : List ℕ) (at : ℕ) {v next : ℕ} {F : Field} → F ≡ field_at (fault_of Positions total) s at → F ≡ Value v next
    → total + v ≤ max_positions
field_fits total s at e h = (positions_range total _ (field_judged (fault_of Positions total) s at e h)).1

pub zones_bound : (bound : ℕ) (s : List ℕ) (at : ℕ) {v next : ℕ} {F : Field} → F ≡ field_at (fault_of Zones bound) s at → F ≡ Value v next → v ≤ max_zones
zones_bound bound s at e h = (zones_range bound _ (field_judged (fault_of Zones bound) s at e h)).1

pub films_bound : (s : List ℕ) (at : ℕ) {v next : ℕ} {F : Field} → F ≡ field_at (fault_of Films 0) s at → F ≡ Value v next → v ≤ max_films
films_bound s at e h = (films_range 0 _ (field_judged (fault_of Films 0) s at e h)).1

-- with a film that is read the blocks are few enough
pub film_fits : (visits total sofar : ℕ) (s : List ℕ) (at : ℕ) {v next : ℕ} {F : Field} → F ≡ field_at (blocks_fault visits total sofar) s at → F ≡ Value v next
    → sofar + v ≤ max_blocks
film_fits visits total sofar s at e h = (blocks_range visits total sofar _ (field_judged (blocks_fault visits total sofar) s at e h)).2

pub move_bound : (s : List ℕ) (at : ℕ) {v next : ℕ} {F : Field} → F ≡ field_at (fault_of Measure max_move) s at → F ≡ Value v next → v ≤ max_move
move_bound s at e h = (measure_range max_move _ (field_judged (fault_of Measure max_move) s at e h)).1
