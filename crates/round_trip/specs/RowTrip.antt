-- Numbers in a row: what is written is read back, and what is accepted is what would be written.
-- Assumes nothing.
use Prim.Native.Nat.{ℕ, zero, suc, ◌+◌, ◌≤◌, ◌<◌}
use Rattle.std.specs.Prelude.{◌≡◌, refl, length, get_or, set, drop}
use Rattle.std.proofs.Common.{sym, ◌∙◌, arith, drop_of_length-le, drop-cons}
use Rattle.std.proofs.Math.Path.{ap}
use mathlib.Core.List.{List, [], ◌∷◌}
use Rattle.std.proofs.Math.ListN.{length-set}
use Rattle.numbers.specs.Limits.{no_number}
use Rattle.leb128.specs.Number.{Bytes}
use Rattle.card_field.specs.Row.{row_fault, row_numbers}
use Rattle.card_field.specs.RangeLaws.{first_none, first_clear}
use Rattle.card.specs.declared.CardRead.{CardRead}
use Rattle.card.specs.Read.{row_from}
use Rattle.round_trip.specs.Ahead.{Ahead, ahead_next, field_goes, Got, got_goes, accepted_field, ahead_more}
use Rattle.round_trip.specs.Entries.{Agree, agree_self, agree_all, agree_next, agree_back}

-- all of them to its end are the list from there on
pub row_all : (left k : ℕ) (vs : List ℕ) → k + left ≡ length vs → row_numbers left k vs [] ≡ drop k vs
unfolding row_numbers
row_all zero k vs h = sym (drop_of_length-le vs {i = k} (omega arith))
row_all (suc left) k vs h =
    let e : k + 1 ≡ suc k = omega arith in
    ap (λ (us : List ℕ). get_or vs k 0 ∷ us) (row_all left (k + 1) vs (omega arith)) ∙ rw e (sym (drop-cons vs k 0 (omega arith)))

module _ {A : Type 0} (judge : A → ℕ → ℕ) (after : A → ℕ → A) where
  -- ---- what is written is read back

  -- the row of t is read into a list that has the rest of its entries
  pub row_goes : ((x : A) (v : ℕ) → judge x v ≡ 0 → v < no_number) → (s t rest : List ℕ) (go : List ℕ → ℕ → CardRead) {r : CardRead}
      → ((next : ℕ) → Ahead s next rest → go t next ≡ r)
      → (left at : ℕ) (x : A) (k : ℕ) (vs : List ℕ) → k + left ≤ length t → Agree k left vs t → Ahead s at (row_numbers left k t rest)
      → row_fault judge after left x k t ≡ 0 → row_from judge after left s at x k vs go ≡ r
  unfolding row_from row_fault row_numbers
  row_goes small s t rest go on zero at x k vs b u a e = ap (λ (us : List ℕ). go us at) (agree_all k vs t u) ∙ on at a
  row_goes small s t rest go on (suc left) at x k vs b u a e =
      let p = first_none (judge x (get_or t k 0)) _ e in
      field_goes a (judge x) _ (small x (get_or t k 0) p.0) p.0
      ∙ row_goes small s t rest go on left _ (after x (get_or t k 0)) (k + 1) (set vs k (get_or t k 0)) (omega arith)
      (agree_next k left vs t (omega (arith, u.long)) u) (ahead_next a) p.1

  -- ---- what is accepted is what would be written

  -- the row that is read from an offset on into vs
  pub record RowRest (left : ℕ) (s : List ℕ) (at : ℕ) (x : A) (k : ℕ) (vs : List ℕ) : Type 0 where
    pub values : List ℕ
    pub next : ℕ
    pub inside : next ≤ length s
    pub agrees : Agree k left vs values
    pub is : (go : List ℕ → ℕ → CardRead) → row_from judge after left s at x k vs go ≡ go values next
    pub faults : row_fault judge after left x k values ≡ 0
    pub ahead : (rest : List ℕ) → Ahead s next rest → Ahead s at (row_numbers left k values rest)

  -- a number in front of a row is a row with one number more
  number_rest : (left : ℕ) (s : List ℕ) (at : ℕ) (x : A) (k : ℕ) (vs : List ℕ) → k < length vs → (v : Got (judge x) s at)
      → RowRest left s v.next (after x v.value) (k + 1) (set vs k v.value) → RowRest (suc left) s at x k vs
  unfolding row_from row_fault row_numbers
  number_rest left s at x k vs b v r = by (agree_back k left vs r.values b v.value r.agrees)
    where
      by : (get_or r.values k 0 ≡ v.value) × Agree k (suc left) vs r.values → RowRest (suc left) s at x k vs
      by y = record {
        values = r.values;
        next = r.next;
        inside = r.inside;
        agrees = y.1;
        is = λ go. got_goes (judge x) s at _ v ∙ r.is go;
        faults = rw y.0 (first_clear v.clear r.faults);
        ahead = λ rest a. rw y.0 (ahead_more v.stands (r.ahead rest a));
      }

  -- an accepted card has the row
  pub row_got : (left : ℕ) (s : List ℕ) (at : ℕ) (x : A) (k : ℕ) (vs : List ℕ) (go : List ℕ → ℕ → CardRead) → Bytes s → at ≤ length s → k + left ≤ length vs
      → (row_from judge after left s at x k vs go).verdict.number ≡ 0 → RowRest left s at x k vs
  unfolding row_from row_fault row_numbers
  row_got zero s at x k vs go y l b e = record {
    values = vs;
    next = at;
    inside = l;
    agrees = agree_self k vs;
    is = λ g. refl;
    faults = refl;
    ahead = λ rest a. a;
  }
  row_got (suc left) s at x k vs go y l b e =
      accepted_field (judge x) s at _ y e (λ v e₁.
      number_rest left s at x k vs (omega arith) v
      (row_got left s v.next (after x v.value) (k + 1) (set vs k v.value) go y v.stands.inside (omega (arith, length-set vs k v.value)) e₁))
