-- Each way that the writer can take, and what is left to write.
-- Assumes nothing.
use Prim.Native.Nat.{ℕ, zero, suc, ◌+◌, ◌*◌, ◌/◌, ◌%◌, ◌≤◌, ◌<◌}
use mathlib.Core.Path.{◌≡◌, refl, sym, ap, ◌∙◌, subst}
use mathlib.Core.List.{List, [], ◌∷◌, ◌++◌}
use mathlib.Core.Bool.{Bool, true, false, cond}
use native.Mathlib.Omega.{arith}
use lib.ListN.{length, get_or, drop, length-append, drop_of_length-le}
use lib.Seq.{drop-cons}
use lib.Dec.{leb, ltb, eqb}
use borrow.Author.Tests.{le-leb, lt-leb, eq-eqb, ne_eqb}
use Rattle.numbers.specs.Limits.{straight_kind, max_number, max_zones, max_films, table_length}
use Rattle.numbers.specs.Refusals.{too_short}
use Rattle.card.specs.declared.Figures.{Figures}
use Rattle.laws.specs.Overwrite.{overwrite, overwrite_none, overwrite_length, overwrite_more, overwrite_front}
use Rattle.leb128.specs.Number.{groups_from, groups}
use Rattle.card_table.specs.Table.{hop_in, back_in, table_numbers}
use Rattle.card_field.specs.Row.{row_numbers}
use Rattle.card.specs.Card.{bytes_of, measure_numbers, film_numbers, zone_numbers, numbers_of, card_of, record_fault}
use Rattle.card.specs.Card.{write_fault, not_written, written_by, written_card, buffer_by, buffer_after}
use Rattle.card.specs.declared.CardWritten.{CardWritten}
use Rattle.card_field.specs.Ranges.{first}
use Rattle.card_writer.specs.Put.{put, Room, Puts}

-- putting vs from `at` on into x is what is left of putting ws from `start` on into out
pub record Writes (write : Bool) (out : List ℕ) (start : ℕ) (ws x : List ℕ) (at : ℕ) (vs : List ℕ) : Type 0 where
  pub same : put write x at (bytes_of vs) ≡ put write out start (bytes_of ws)
  pub ends : at + length (bytes_of vs) ≡ start + length (bytes_of ws)
  pub long : length x ≡ length out

pub writes_start : (write : Bool) (out : List ℕ) (start : ℕ) (ws : List ℕ) → Writes write out start ws out start ws
writes_start write out start ws = record { same = refl; ends = refl; long = refl }

-- bytes in front of others, and what is left after them
put_more : (write : Bool) (x : List ℕ) (at : ℕ) (bs cs : List ℕ) → Room write x at bs
    → put write (put write x at bs) (at + length bs) cs ≡ put write x at (bs ++ cs)
put_more true x at bs cs r = overwrite_more x at bs cs (r.written refl)
put_more false x at bs cs r = refl

put_length : (write : Bool) (x : List ℕ) (at : ℕ) (bs : List ℕ) → Room write x at bs → length (put write x at bs) ≡ length x
put_length true x at bs r = overwrite_length x at bs (r.written refl)
put_length false x at bs r = refl

put_none : (write : Bool) (x : List ℕ) (at : ℕ) → put write x at [] ≡ x
put_none true x at = overwrite_none x at
put_none false x at = refl

-- a number that is written, and one that is counted
pub put_written : {write : Bool} {x y bs : List ℕ} {at next : ℕ} → write ≡ true → (next ≡ at + length bs) × (y ≡ overwrite x at bs) → Puts write x at bs next y
put_written e p = record { end = p.0; string = rw e p.1 }

pub put_counted : {write : Bool} {x bs : List ℕ} {at n : ℕ} → write ≡ false → n ≡ length bs → Puts write x at bs (at + n) x
put_counted {at = at} e n = record { end = ap (λ (k : ℕ). at + k) n; string = rw e }

-- the same numbers need the same room and are put the same
pub room_same : {write : Bool} {x : List ℕ} {at : ℕ} {vs ws : List ℕ} → vs ≡ ws → Room write x at (bytes_of ws) → Room write x at (bytes_of vs)
room_same {write} {x} {at} e r = subst (λ (us : List ℕ). Room write x at (bytes_of us)) (sym e) r

pub puts_same : {write : Bool} {x y : List ℕ} {at next : ℕ} {vs ws : List ℕ} → vs ≡ ws → Puts write x at (bytes_of vs) next y
    → Puts write x at (bytes_of ws) next y
puts_same {write} {x} {y} {at} {next} e p = subst (λ (us : List ℕ). Puts write x at (bytes_of us) next y) e p

module _ {write : Bool} {out : List ℕ} {start : ℕ} {ws x : List ℕ} {at : ℕ} (room : Room write out start (bytes_of ws)) where
  -- there is room for what is left
  pub writes_rest : {vs : List ℕ} → Writes write out start ws x at vs → Room write x at (bytes_of vs)
  writes_rest w = record { counted = omega (arith, w.ends, room.counted); written = λ e. omega (arith, w.ends, w.long, room.written e) }

  module _ {v : ℕ} {vs : List ℕ} (w : Writes write out start ws x at (v ∷ vs)) where
    pub writes_fits : Room write x at (groups v)
    unfolding bytes_of
    writes_fits =
        let more = length-append (groups v) (bytes_of vs) in
        let rest = writes_rest w in
        record { counted = omega (arith, rest.counted); written = λ e. omega (arith, rest.written e) }

    pub writes_next : {y : List ℕ} {next : ℕ} → Puts write x at (groups v) next y → Writes write out start ws y next vs
    unfolding bytes_of
    writes_next {y} {next} p = record {
      same = rw (p.end, p.string) (put_more write x at (groups v) (bytes_of vs) writes_fits ∙ w.same);
      ends = omega (arith, w.ends, p.end, length-append (groups v) (bytes_of vs));
      long = ap length p.string ∙ put_length write x at (groups v) writes_fits ∙ w.long;
    }

-- all is put, by the last of them or by a callee
module _ {write : Bool} {out : List ℕ} {start : ℕ} {ws x : List ℕ} {at : ℕ} where
  pub writes_done : Writes write out start ws x at [] → Puts write out start (bytes_of ws) at x
  unfolding bytes_of
  writes_done w = record { end = omega (arith, w.ends); string = sym (put_none write x at) ∙ w.same }

  pub writes_last : {vs y : List ℕ} {next : ℕ} → Writes write out start ws x at vs → Puts write x at (bytes_of vs) next y
      → Puts write out start (bytes_of ws) next y
  writes_last w p = record { end = omega (arith, w.ends, p.end); string = p.string ∙ w.same }

module _ (f : Figures) (i : ℕ) where
  pub numbers_done : (left : ℕ) → left ≤ 0 → zone_numbers left i f ≡ film_numbers f
  unfolding zone_numbers
  numbers_done zero h = refl
  numbers_done (suc left) h = absurd (omega arith)

  pub numbers_more : (left k : ℕ) → left ≡ k + 1 → zone_numbers left i f ≡ get_or f.positions i 0 ∷ get_or f.times i 0 ∷ zone_numbers k (i + 1) f
  unfolding zone_numbers
  numbers_more zero k h = absurd (omega arith)
  numbers_more (suc left) k h = let q : left ≡ k = omega arith in rw q

-- numbers in a row, one by one
module _ (vs rest : List ℕ) (i : ℕ) where
  pub row_done : (left : ℕ) → left ≤ 0 → row_numbers left i vs rest ≡ rest
  unfolding row_numbers
  row_done zero h = refl
  row_done (suc left) h = absurd (omega arith)

  pub row_more : (left k : ℕ) → left ≡ k + 1 → row_numbers left i vs rest ≡ get_or vs i 0 ∷ row_numbers k (i + 1) vs rest
  unfolding row_numbers
  row_more zero k h = absurd (omega arith)
  row_more (suc left) k h = let q : left ≡ k = omega arith in rw q

-- ---- a card is short enough to be counted

groups_short : (n v : ℕ) → length (groups_from n v) ≤ suc n
unfolding groups_from
groups_short zero v = omega arith
groups_short (suc n) v = by (ltb v 128) (groups_short n (v / 128))
  where
    by : (t : Bool) → length (groups_from n (v / 128)) ≤ suc n → length (cond t (v ∷ []) ((v % 128 + 128) ∷ groups_from n (v / 128))) ≤ suc (suc n)
    by true h = omega arith
    by false h = omega arith

bytes_short : (vs : List ℕ) → length (bytes_of vs) ≤ 5 * length vs
unfolding bytes_of groups
bytes_short [] = omega arith
bytes_short (v ∷ vs) = omega (arith, groups_short 4 v, bytes_short vs, length-append (groups_from 4 v) (bytes_of vs))

-- ---- the overheads

module _ (t : List ℕ) (k : ℕ) where
  pub drop_here : k < length t → drop k t ≡ get_or t k 0 ∷ drop (k + 1) t
  drop_here h = let e : k + 1 ≡ suc k = omega arith in rw e (drop-cons t k 0 h)

  pub drop_none : length t ≤ k → drop k t ≡ []
  drop_none h = drop_of_length-le t {i = k} h

-- by the kind
module _ (kind : ℕ) (t : List ℕ) where
  pub numbers_straight : kind ≡ straight_kind → table_numbers kind t ≡ hop_in t ∷ back_in t ∷ []
  unfolding table_numbers
  numbers_straight e = rw (eq-eqb kind straight_kind e)

  pub numbers_measured : (kind ≡ straight_kind → ⊥) → table_numbers kind t ≡ t
  unfolding table_numbers
  numbers_measured n = rw (ne_eqb kind straight_kind n)

numbers_few : (kind : ℕ) (t : List ℕ) → length t ≡ table_length → length (table_numbers kind t) ≤ table_length
unfolding table_numbers
numbers_few kind t w = by (eqb kind straight_kind)
  where
    by : (x : Bool) → length (cond x (hop_in t ∷ back_in t ∷ []) t) ≤ table_length
    by true = omega arith
    by false = omega arith

row_few : (left i : ℕ) (vs rest : List ℕ) → length (row_numbers left i vs rest) ≡ left + length rest
unfolding row_numbers
row_few zero i vs rest = omega arith
row_few (suc left) i vs rest = omega (arith, row_few left (i + 1) vs rest)

zones_few : (left i : ℕ) (f : Figures) → length f.table ≡ table_length → length (zone_numbers left i f) ≤ 2 * left + f.films + 3 + table_length
unfolding zone_numbers film_numbers
zones_few zero i f w = omega (arith, row_few f.films 0 f.blocks (measure_numbers f), numbers_few f.kind f.table w)
zones_few (suc left) i f w = omega (arith, zones_few left (i + 1) f w)

-- a card has at most 406 numbers
pub card_counted : (f : Figures) → length f.table ≡ table_length → f.zones ≤ max_zones → f.films ≤ max_films → 0 + length (card_of f) ≤ max_number
unfolding card_of numbers_of
card_counted f w z n = omega (arith, bytes_short (f.kind ∷ f.zones ∷ zone_numbers f.zones 0 f), zones_few f.zones 0 f w)

-- ---- the answer

module _ (f : Figures) (out : List ℕ) where
  pub write_faulty : {k : ℕ} → k ≡ record_fault 1 f → (k ≡ 0 → ⊥) → (not_written k ≡ written_card f out) × (out ≡ buffer_after f out)
  unfolding written_card buffer_after write_fault
  write_faulty {k} e n = by k e n
    where
      by : (k : ℕ) → k ≡ record_fault 1 f → (k ≡ 0 → ⊥)
          → (not_written k ≡ written_by (first (record_fault 1 f) (cond (leb (length (card_of f)) (length out)) 0 too_short)) f)
          × (out ≡ buffer_by (first (record_fault 1 f) (cond (leb (length (card_of f)) (length out)) 0 too_short)) f out)
      by zero e n = absurd (n refl)
      by (suc k) e n = unfold first in (rw (sym e), rw (sym e))

  module _ (legal : record_fault 1 f ≡ 0) where
    pub write_short : length out < length (card_of f) → (not_written too_short ≡ written_card f out) × (out ≡ buffer_after f out)
    unfolding written_card buffer_after write_fault first
    write_short h = (rw (legal, lt-leb _ _ h), rw (legal, lt-leb _ _ h))

    pub write_fits : length (card_of f) ≤ length out
        → (◌≡◌ {A = CardWritten} (record { verdict = record { number = 0; place = 0 }; length = length (card_of f) }) (written_card f out))
        × (overwrite out 0 (card_of f) ≡ buffer_after f out)
    unfolding written_card buffer_after write_fault first
    write_fits h = (rw (legal, le-leb _ _ h), rw (legal, le-leb _ _ h) (overwrite_front out (card_of f)))
