-- The overheads of a card: what is written is read back, and what is accepted is what would be written.
-- Assumes nothing.
use Rattle.std.specs.Prelude.{ℕ, ◌≤◌, ◌≡◌, refl, ◌⊎◌, length}
use Rattle.std.proofs.Common.{sym, ◌∙◌, inl, inr, arith, eq-eqb, ne_eqb}
use Rattle.std.proofs.Math.Path.{ap}
use mathlib.Core.List.{List, [], ◌∷◌}
use Rattle.std.proofs.Math.ListN.{get_or-eq_default}
use Rattle.numbers.specs.Limits.{straight_kind, measured_kind, max_move, table_length}
use Rattle.leb128.specs.Number.{Bytes}
use Rattle.card.specs.declared.CardRead.{CardRead}
use Rattle.card_field.specs.declared.Rule.TheVariants.{Measure, Overhead}
use Rattle.card_field.specs.Ranges.{fault_of}
use Rattle.card_field.specs.Row.{row_numbers}
use Rattle.card_field.specs.RangeLaws.{first_none, measure_range, overhead_range}
use Rattle.card_table.specs.Table.{straight, hop_in, back_in, straight_fault, last_entry, measured_fault, table_fault, table_numbers}
use Rattle.card_table.specs.TableLaws.{straight_long}
use Rattle.card_table.specs.TableFaults.{straight_is, straight_hop, straight_back, straight_fault_law}
use Rattle.card.specs.Read.{blank_table, moves_from, entries_from, table_from}
use Rattle.round_trip.specs.Ahead.{Ahead, ahead_next, field_goes, Got, got_goes, still_accepted, accepted_field, ahead_more}
use Rattle.round_trip.specs.RowTrip.{row_all, row_goes, RowRest, row_got}
use Rattle.round_trip.specs.Entries.{Agree}

-- past the last entry both are 0
agree_long : (xs ys : List ℕ) → length xs ≡ table_length → length ys ≡ table_length → Agree 0 table_length xs ys
agree_long xs ys x y = record {
  long = x ∙ sym y;
  low = λ j h. absurd (omega arith);
  high = λ j h. get_or-eq_default xs 0 (omega arith) ∙ sym (get_or-eq_default ys 0 (omega arith));
}

-- reader, judge and writer go by the kind
module _ (kind : ℕ) (s : List ℕ) (at : ℕ) (go : List ℕ → ℕ → CardRead) where
  from_straight : kind ≡ straight_kind → table_from kind s at go ≡ moves_from s at go
  unfolding table_from
  from_straight k = rw (eq-eqb kind straight_kind k)

  from_measured : kind ≡ measured_kind → table_from kind s at go ≡ entries_from s at go
  unfolding table_from
  from_measured k = rw (ne_eqb kind straight_kind (omega arith))

module _ (kind : ℕ) (t : List ℕ) where
  fault_of_straight : kind ≡ straight_kind → table_fault kind t ≡ straight_fault t
  unfolding table_fault
  fault_of_straight k = rw k

  fault_of_measured : kind ≡ measured_kind → table_fault kind t ≡ measured_fault t
  unfolding table_fault
  fault_of_measured k = rw k

  numbers_of_straight : kind ≡ straight_kind → table_numbers kind t ≡ hop_in t ∷ back_in t ∷ []
  unfolding table_numbers
  numbers_of_straight k = rw k

  numbers_of_measured : kind ≡ measured_kind → table_numbers kind t ≡ t
  unfolding table_numbers
  numbers_of_measured k = rw k

pub blank_table_long : length blank_table ≡ table_length
unfolding blank_table
blank_table_long = refl

-- the whole table is one row
entries_row : (t : List ℕ) → length t ≡ table_length → row_numbers table_length 0 t [] ≡ t
entries_row t w = row_all table_length 0 t (sym w)

-- ---- what is written is read back

module _ (s t : List ℕ) (w : length t ≡ table_length) (at : ℕ) (go : List ℕ → ℕ → CardRead) {r : CardRead}
    (on : (next : ℕ) → Ahead s next [] → go t next ≡ r) where
  -- hop and return are read, and make the table
  moves_go : Ahead s at (hop_in t ∷ back_in t ∷ []) → straight_fault t ≡ 0 → moves_from s at go ≡ r
  unfolding moves_from straight_fault
  moves_go a e =
      let h = first_none (fault_of Measure max_move (hop_in t)) _ e in
      let b = first_none (fault_of Measure max_move (back_in t)) _ h.1 in
      let same : (n : ℕ) → go (straight (hop_in t) (back_in t)) n ≡ go t n = λ n. ap (λ (x : List ℕ). go x n) (sym (straight_is t w e)) in
      field_goes a (fault_of Measure max_move) _ (omega (arith, measure_range max_move (hop_in t) h.0)) h.0
      ∙ field_goes (ahead_next a) (fault_of Measure max_move) _ (omega (arith, measure_range max_move (back_in t) b.0)) b.0
      ∙ same _
      ∙ on _ (ahead_next (ahead_next a))

  -- the whole table is read
  entries_go : Ahead s at t → measured_fault t ≡ 0 → entries_from s at go ≡ r
  unfolding entries_from measured_fault
  entries_go a e = row_goes (fault_of Overhead) last_entry (λ x v c. omega (arith, overhead_range x v c)) s t [] go on table_length at 0 0 blank_table (omega arith)
      (agree_long blank_table t blank_table_long w) (rw (entries_row t w) a) e

  -- the overheads are read, by the kind
  pub table_goes : (kind : ℕ) → (kind ≡ straight_kind) ⊎ (kind ≡ measured_kind) → Ahead s at (table_numbers kind t) → table_fault kind t ≡ 0
      → table_from kind s at go ≡ r
  table_goes kind (inl k) a e = from_straight kind s at go k ∙ moves_go (rw (numbers_of_straight kind t k) at a) (sym (fault_of_straight kind t k) ∙ e)
  table_goes kind (inr k) a e = from_measured kind s at go k ∙ entries_go (rw (numbers_of_measured kind t k) at a) (sym (fault_of_measured kind t k) ∙ e)

-- ---- what is accepted is what would be written

-- the overheads that are read from an offset on
pub record TableRest (kind : ℕ) (s : List ℕ) (at : ℕ) : Type 0 where
  pub table : List ℕ
  pub next : ℕ
  pub inside : next ≤ length s
  pub long : length table ≡ table_length
  pub is : (go : List ℕ → ℕ → CardRead) → table_from kind s at go ≡ go table next
  pub faults : table_fault kind table ≡ 0
  pub ahead : Ahead s next [] → Ahead s at (table_numbers kind table)

-- hop and return
moves_rest : (kind : ℕ) (s : List ℕ) (at : ℕ) → kind ≡ straight_kind → (h : Got (fault_of Measure max_move) s at) (b : Got (fault_of Measure max_move) s h.next)
    → TableRest kind s at
moves_rest kind s at k h b = record {
  table = t;
  next = b.next;
  inside = b.stands.inside;
  long = straight_long h.value b.value;
  is = λ go. from_straight kind s at go k
      ∙ (unfold moves_from in got_goes (fault_of Measure max_move) s at _ h ∙ got_goes (fault_of Measure max_move) s h.next _ b);
  faults = fault_of_straight kind t k ∙ straight_fault_law t (record {
    hop = h.value;
    back = b.value;
    hops = measure_range max_move h.value h.clear;
    backs = measure_range max_move b.value b.clear;
    same = refl;
  });
  ahead = λ a. rw (numbers_of_straight kind t k, straight_hop h.value b.value, straight_back h.value b.value)
      (ahead_more h.stands (ahead_more b.stands a));
}
  where
    t : List ℕ
    t = straight h.value b.value

-- the whole table
entries_rest : (kind : ℕ) (s : List ℕ) (at : ℕ) → kind ≡ measured_kind → RowRest (fault_of Overhead) last_entry table_length s at 0 0 blank_table
    → TableRest kind s at
unfolding entries_from measured_fault
entries_rest kind s at k r =
    let w : length r.values ≡ table_length = sym r.agrees.long ∙ blank_table_long in
    record {
      table = r.values;
      next = r.next;
      inside = r.inside;
      long = w;
      is = λ go. from_measured kind s at go k ∙ r.is go;
      faults = fault_of_measured kind r.values k ∙ r.faults;
      ahead = λ a. rw (numbers_of_measured kind r.values k) (rw (entries_row r.values w) at (r.ahead [] a));
    }

-- an accepted card has its overheads, by the kind
module _ (kind : ℕ) (s : List ℕ) (at : ℕ) (go : List ℕ → ℕ → CardRead) (y : Bytes s) where
  moves_got : kind ≡ straight_kind → (moves_from s at go).verdict.number ≡ 0 → TableRest kind s at
  unfolding moves_from
  moves_got k e =
      accepted_field (fault_of Measure max_move) s at _ y e (λ h e₁.
      accepted_field (fault_of Measure max_move) s h.next _ y e₁ (λ b e₂.
      moves_rest kind s at k h b))

  entries_got : kind ≡ measured_kind → at ≤ length s → (entries_from s at go).verdict.number ≡ 0 → TableRest kind s at
  unfolding entries_from
  entries_got k l e = entries_rest kind s at k (row_got (fault_of Overhead) last_entry table_length s at 0 0 blank_table go y l (omega (arith, blank_table_long)) e)

  pub table_got : at ≤ length s → (kind ≡ straight_kind) ⊎ (kind ≡ measured_kind) → (table_from kind s at go).verdict.number ≡ 0 → TableRest kind s at
  table_got l (inl k) e = moves_got k (still_accepted (from_straight kind s at go k) e)
  table_got l (inr k) e = entries_got k l (still_accepted (from_measured kind s at go k) e)
