-- How long the card of legal figures is.
-- Assumes nothing.
use Rattle.std.specs.Prelude.{ℕ, zero, suc, ◌+◌, ◌*◌, ◌/◌, ◌%◌, ◌^◌, ◌≤◌, ◌<◌, ◌≡◌, ◌⊎◌, Bool, true, false, cond, length, get_or, ltb}
use Rattle.std.proofs.Math.Path.{refl, ap}
use Rattle.std.proofs.Common.{◌∙◌, inl, inr, length-append, ltb-false}
use Rattle.std.proofs.Math.Logic.{by_cases}
use mathlib.Core.List.{List, [], ◌∷◌}
use native.Mathlib.Omega.{arith}
use Rattle.std.proofs.Math.Nat.{pow-succ'}
use Rattle.std.proofs.Math.Decide.{dec_le}
use Rattle.laws.specs.Starts.{start_none, start_next, start_rises}
use Rattle.numbers.specs.Limits.{straight_kind, measured_kind, max_time, max_blocks, table_length, min_card, max_card}
use Rattle.leb128.specs.Number.{groups_from, groups}
use Rattle.card.specs.declared.Figures.{Figures}
use Rattle.card_field.specs.declared.Rule.TheVariants.{Positions}
use Rattle.card_field.specs.Ranges.{fault_of, time_fault}
use Rattle.card_field.specs.Row.{row_numbers}
use Rattle.card_table.specs.Table.{hop_in, back_in, table_numbers}
use Rattle.card_table.specs.TableFaults.{TableLegal, straight_hop, straight_back}
use Rattle.card.specs.Card.{Legal, film_fault, zone_faults, measure_numbers, film_numbers, zone_numbers, numbers_of, bytes_of, card_of}
use Rattle.card_field.specs.RangeLaws.{first_none, positions_range, time_range}
use Rattle.legality.specs.Films.{ShelfLegal}
use Rattle.legality.specs.Legality.{Kinded, fault_film, fault_judged, legal_fault}

-- a number below 128 ^ suc k takes one to suc k bytes
groups_few : (n k v : ℕ) → v < 128 ^ suc k → (1 ≤ length (groups_from n v)) × (length (groups_from n v) ≤ suc k)
unfolding groups_from
groups_few zero k v h = omega arith
groups_few (suc n) k v h = by (ltb v 128) refl k h (λ j u. groups_few n j (v / 128) u)
  where
    by : (t : Bool) → ltb v 128 ≡ t → (k : ℕ) → v < 128 ^ suc k
        → ((j : ℕ) → v / 128 < 128 ^ suc j → (1 ≤ length (groups_from n (v / 128))) × (length (groups_from n (v / 128)) ≤ suc j))
        → (1 ≤ length (cond t (v ∷ []) ((v % 128 + 128) ∷ groups_from n (v / 128))))
        × (length (cond t (v ∷ []) ((v % 128 + 128) ∷ groups_from n (v / 128))) ≤ suc k)
    by true e k h ih = omega arith
    by false e zero h ih = absurd (omega (arith, ltb-false v 128 e))
    by false e (suc k) h ih = omega (arith, ih k (omega (arith, pow-succ' 128 (suc k))))

-- the bytes of numbers vs, of which the first takes at most k more
bytes_more : (k v : ℕ) (vs : List ℕ) → v < 128 ^ suc k
    → (1 + length (bytes_of vs) ≤ length (bytes_of (v ∷ vs))) × (length (bytes_of (v ∷ vs)) ≤ suc k + length (bytes_of vs))
unfolding bytes_of groups
bytes_more k v vs h = omega (arith, groups_few 4 k v h, length-append (groups_from 4 v) (bytes_of vs))

-- the bytes of numbers that take one to four bytes each
bytes_all : (vs : List ℕ) → ((i : ℕ) → i < length vs → get_or vs i 0 < 128 ^ 4) → (length vs ≤ length (bytes_of vs)) × (length (bytes_of vs) ≤ 4 * length vs)
bytes_all [] h = unfold bytes_of in omega arith
bytes_all (v ∷ vs) h = omega (arith, bytes_more 3 v vs (h 0 (omega arith)), bytes_all vs (λ i l. h (suc i) (omega arith)))

-- hop and return take two to six bytes, a whole table at least 257 and at most 1,028
table_size : (kind : ℕ) (t : List ℕ) → length t ≡ table_length → (kind ≡ straight_kind) ⊎ (kind ≡ measured_kind) → TableLegal kind t
    → (2 ≤ length (bytes_of (table_numbers kind t))) × (length (bytes_of (table_numbers kind t)) ≤ 1028)
unfolding table_numbers
table_size kind t w (inl k) l =
    let none : length (bytes_of []) ≡ 0 = unfold bytes_of in refl in
    let s = l.straight k in
    let hop : hop_in t ≡ s.hop = ap hop_in s.same ∙ straight_hop s.hop s.back in
    let back : back_in t ≡ s.back = ap back_in s.same ∙ straight_back s.hop s.back in
    rw k (omega (arith, none, bytes_more 2 (hop_in t) (back_in t ∷ []) (omega (arith, s.hops)), bytes_more 2 (back_in t) [] (omega (arith, s.backs))))
table_size kind t w (inr k) l = rw k (omega (arith, bytes_all t (λ i h. omega (arith, (l.measured k).range i (omega arith)))))

-- numbers in a row that take one to suc k bytes each
row_size : (k left i : ℕ) (vs rest : List ℕ) → ((j : ℕ) → i ≤ j → j < i + left → get_or vs j 0 < 128 ^ suc k)
    → (left + length (bytes_of rest) ≤ length (bytes_of (row_numbers left i vs rest)))
    × (length (bytes_of (row_numbers left i vs rest)) ≤ suc k * left + length (bytes_of rest))
unfolding row_numbers
row_size k zero i vs rest h = omega arith
row_size k (suc left) i vs rest h = omega (
  arith,
  bytes_more k (get_or vs i 0) (row_numbers left (i + 1) vs rest) (h i (omega arith) (omega arith)),
  row_size k left (i + 1) vs rest (λ j m l. h j (omega arith) (omega arith)),
)

-- of two films or more none has 16,384 blocks: another one has some
film_few : (k total : ℕ) (ns : List ℕ) (films : ℕ) → ShelfLegal k total ns films → 2 ≤ films → (i : ℕ) → i < films → get_or ns i 0 < max_blocks
film_few k total ns films l two zero h =
    let N : ℕ → ℕ = λ j. get_or ns j 0 in
    omega (arith, start_none N, start_next N 0, start_next N 1, start_rises N 2 films two, l.blocks 1 (omega arith), l.all)
film_few k total ns films l two (suc i) h =
    let N : ℕ → ℕ = λ j. get_or ns j 0 in
    omega (
      arith,
      start_none N,
      start_next N 0,
      start_rises N 1 (suc i) (omega arith),
      start_next N (suc i),
      start_rises N (suc (suc i)) films h,
      l.blocks 0 (omega arith),
      l.all,
    )

-- the films take two to 33 bytes: one film at most three besides their number, more films two each
shelf_size : (k total : ℕ) (ns : List ℕ) (films : ℕ) (rest : List ℕ) → ShelfLegal k total ns films
    → (2 + length (bytes_of rest) ≤ length (bytes_of (films ∷ row_numbers films 0 ns rest)))
    × (length (bytes_of (films ∷ row_numbers films 0 ns rest)) ≤ 33 + length (bytes_of rest))
shelf_size k total ns films rest l = by_cases (dec_le 2 films)
    (λ two. omega (arith, l.count, count, row_size 1 films 0 ns rest (λ j m h. film_few k total ns films l two j (omega arith))))
    (λ one. omega (arith, l.count, count, row_size 2 films 0 ns rest (λ j m h. omega (arith, l.blocks j (omega arith)))))
  where
    count : (1 + length (bytes_of (row_numbers films 0 ns rest)) ≤ length (bytes_of (films ∷ row_numbers films 0 ns rest)))
        × (length (bytes_of (films ∷ row_numbers films 0 ns rest)) ≤ 1 + length (bytes_of (row_numbers films 0 ns rest)))
    count = bytes_more 0 films (row_numbers films 0 ns rest) (omega (arith, l.count))

film_size : (k : ℕ) (f : Figures) (total : ℕ) → length f.table ≡ table_length → Kinded f → film_fault k f total ≡ 0
    → (6 ≤ length (bytes_of (film_numbers f))) × (length (bytes_of (film_numbers f)) ≤ 1069)
unfolding film_numbers
film_size k f total w d e =
    let l = fault_film k f total w e in
    let rest = table_numbers f.kind f.table in
    omega (
      arith,
      shelf_size k total f.blocks f.films (measure_numbers f) l.shelf,
      bytes_more 3 f.bytes (f.rate ∷ rest) (omega (arith, l.bytes)),
      bytes_more 3 f.rate rest (omega (arith, l.rate)),
      table_size f.kind f.table w d l.table,
    )

zones_size : (k left i : ℕ) (f : Figures) (total before : ℕ) → length f.table ≡ table_length → Kinded f → zone_faults k left i f total before ≡ 0
    → (2 * left + 6 ≤ length (bytes_of (zone_numbers left i f))) × (length (bytes_of (zone_numbers left i f)) ≤ 7 * left + 1069)
unfolding zone_faults zone_numbers
zones_size k zero i f total before w d e = film_size k f total w d e
zones_size k (suc left) i f total before w d e =
    let p = first_none (fault_of Positions total (get_or f.positions i 0)) _ e in
    let q = first_none (time_fault (get_or f.times 0 0) before (get_or f.times i 0)) _ p.1 in
    let few = positions_range total (get_or f.positions i 0) p.0 in
    let slow = time_range before (get_or f.times i 0) (get_or f.times 0 0) q.0 in
    omega (
      arith,
      bytes_more 2 (get_or f.positions i 0) (get_or f.times i 0 ∷ zone_numbers left (i + 1) f) (omega arith),
      bytes_more 3 (get_or f.times i 0) (zone_numbers left (i + 1) f) (omega arith),
      zones_size k left (i + 1) f (total + get_or f.positions i 0) (get_or f.times i 0) w d q.1,
    )

-- THE CARD OF LEGAL FIGURES HAS 10 TO 1,519 BYTES
pub legal_size : (k : ℕ) (f : Figures) → Legal k f → (min_card ≤ length (card_of f)) × (length (card_of f) ≤ max_card)
unfolding card_of numbers_of
legal_size k f l =
    let j = fault_judged k f (legal_fault k f l) in
    omega (
      arith,
      j.zones,
      bytes_more 0 f.kind (f.zones ∷ zone_numbers f.zones 0 f) (kind_small l.kind),
      bytes_more 0 f.zones (zone_numbers f.zones 0 f) (omega (arith, j.zones)),
      zones_size k f.zones 0 f 0 max_time l.wide.3 l.kind j.faults,
    )
  where
    kind_small : {v : ℕ} → (v ≡ straight_kind) ⊎ (v ≡ measured_kind) → v < 128 ^ 1
    kind_small (inl e) = omega arith
    kind_small (inr e) = omega arith
