-- What holds of every answer of the reader.
-- Assumes nothing.
use Prim.Native.Nat.{ℕ, zero, suc, ◌+◌}
use Rattle.std.specs.Prelude.{Bool, cond, List, length, get_or, set, ltb, eqb}
use Rattle.std.proofs.Math.Bool.{true, false}
use Rattle.numbers.specs.Limits.{straight_kind, max_bytes, max_rate, max_move, table_length, max_time}
use Rattle.numbers.specs.Refusals.{card_ends, number_form, card_goes_on}
use Rattle.leb128.specs.declared.Number.{Number}
use Rattle.leb128.specs.declared.Number.TheVariants as number
use Rattle.leb128.specs.Number.{number_at}
use Rattle.card_field.specs.declared.Rule.{Rule}
use Rattle.card_field.specs.declared.Rule.TheVariants.{Kind, Zones, Positions, Films, Measure, Overhead}
use Rattle.card_field.specs.Ranges.{fault_of, time_fault, blocks_fault}
use Rattle.card_field.specs.Figure.{on_fault, on_number, field_at}
use Rattle.card_table.specs.Table.{straight, last_entry}
use Rattle.card.specs.declared.Figures.{Figures}
use Rattle.card.specs.declared.CardRead.{CardRead}
use Rattle.card.specs.Read.{blank_zones, blank_films, blank_table, accepted, refused_card, then_field, card_end, row_from}
use Rattle.card.specs.Read.{moves_from, entries_from, table_from, shelf_from, film_from, zones_from, after_zones, read_card}

-- a fact P of answers that has every acceptance, and every refusal by a number of which Q holds; and Q holds of what is not refused (0),
-- of 1, 2 and 11, and of what each judge says
pub record Holds (P : CardRead → Type 0) (Q : ℕ → Type 0) : Type 0 where
  pub accepts : (f : Figures) → P (record { verdict = accepted; figures = f })
  pub refuses : (k at : ℕ) → Q k → P (refused_card k at)
  pub ends : Q card_ends
  pub form : Q number_form
  pub over : Q card_goes_on
  pub rule : (u : Rule) (bound v : ℕ) → Q (fault_of u bound v)
  pub time : (innermost before v : ℕ) → Q (time_fault innermost before v)
  pub blocks : (k total sofar v : ℕ) → Q (blocks_fault k total sofar v)

module _ (P : CardRead → Type 0) (Q : ℕ → Type 0) (h : Holds P Q) where
  -- a figure, and what follows it
  then_holds : (judge : ℕ → ℕ) (s : List ℕ) (at : ℕ) (go : ℕ → ℕ → CardRead) → ((v : ℕ) → Q (judge v)) → ((v next : ℕ) → P (go v next))
      → P (then_field (field_at judge s at) go)
  unfolding field_at on_number on_fault then_field
  then_holds judge s at go p q = by (number_at s at)
    where
      on : (k v next : ℕ) → Q k → P (then_field (on_fault k at v next) go)
      on zero v next o = q v next
      on (suc k) v next o = h.refuses (suc k) at o

      by : (n : Number) → P (then_field (on_number judge at n) go)
      by (number.Value v next) = on (judge v) v next (p v)
      by (number.CutOff size) = h.refuses card_ends size h.ends
      by (number.Malformed start) = h.refuses number_form start h.form

  end_holds : (s : List ℕ) (at : ℕ) (f : Figures) → P (card_end s at f)
  unfolding card_end
  end_holds s at f = by (ltb at (length s))
    where
      by : (t : Bool) → P (cond t (refused_card card_goes_on at) (record { verdict = accepted; figures = f }))
      by true = h.refuses card_goes_on at h.over
      by false = h.accepts f

  row_holds : {A : Type 0} (judge : A → ℕ → ℕ) (after : A → ℕ → A) → ((x : A) (v : ℕ) → Q (judge x v))
      → (left : ℕ) (s : List ℕ) (at : ℕ) (x : A) (k : ℕ) (vs : List ℕ) (go : List ℕ → ℕ → CardRead)
      → ((us : List ℕ) (next : ℕ) → P (go us next)) → P (row_from judge after left s at x k vs go)
  unfolding row_from
  row_holds judge after j zero s at x k vs go q = q vs at
  row_holds judge after j (suc left) s at x k vs go q =
      then_holds (judge x) s at _ (j x) (λ v at₁. row_holds judge after j left s at₁ (after x v) (k + 1) (set vs k v) go q)

  table_holds : (kind : ℕ) (s : List ℕ) (at : ℕ) (go : List ℕ → ℕ → CardRead) → ((os : List ℕ) (next : ℕ) → P (go os next)) → P (table_from kind s at go)
  unfolding table_from moves_from entries_from
  table_holds kind s at go q = by (eqb kind straight_kind)
    where
      by : (t : Bool) → P (cond t (moves_from s at go) (entries_from s at go))
      by true =
          then_holds _ s at _ (h.rule Measure max_move) (λ hop at₁. then_holds _ s at₁ _ (h.rule Measure max_move) (λ back at₂. q (straight hop back) at₂))
      by false = row_holds (fault_of Overhead) last_entry (h.rule Overhead) table_length s at 0 0 blank_table go q

  zones_hold : (left : ℕ) (s : List ℕ) (at i : ℕ) (ps ts : List ℕ) (total before : ℕ) (go : List ℕ → List ℕ → ℕ → ℕ → CardRead)
      → ((qs us : List ℕ) (all next : ℕ) → P (go qs us all next)) → P (zones_from left s at i ps ts total before go)
  unfolding zones_from
  zones_hold zero s at i ps ts total before go q = q ps ts total at
  zones_hold (suc left) s at i ps ts total before go q =
      then_holds _ s at _ (h.rule Positions total) (λ p at₁.
      then_holds _ s at₁ _ (h.time (get_or ts 0 0) before) (λ t at₂.
      zones_hold left s at₂ (i + 1) (set ps i p) (set ts i t) (total + p) t go q))

  shelf_holds : (k : ℕ) (s : List ℕ) (at total : ℕ) (go : ℕ → List ℕ → ℕ → CardRead) → ((films : ℕ) (ns : List ℕ) (next : ℕ) → P (go films ns next))
      → P (shelf_from k s at total go)
  unfolding shelf_from
  shelf_holds k s at total go q =
      then_holds _ s at _ (h.rule Films 0) (λ films at₁.
      row_holds (blocks_fault k total) ◌+◌ (h.blocks k total) films s at₁ 0 0 blank_films (go films) (q films))

  rest_holds : (k : ℕ) (s : List ℕ) (kind z : ℕ) (ps ts : List ℕ) (total at : ℕ) → P (after_zones k s kind z ps ts total at)
  unfolding film_from
  rest_holds k s kind z ps ts total at =
      shelf_holds k s at total _ (λ films ns at₁.
      then_holds _ s at₁ _ (h.rule Measure max_bytes) (λ b at₂.
      then_holds _ s at₂ _ (h.rule Measure max_rate) (λ c at₃.
      table_holds kind s at₃ _ (λ os at₄. end_holds s at₄ _))))

  -- IT HOLDS OF THE READER'S ANSWER
  pub read_holds : (k : ℕ) (s : List ℕ) → P (read_card k s)
  unfolding read_card
  read_holds k s =
      then_holds _ s 0 _ (h.rule Kind 0) (λ kind at₁.
      then_holds _ s at₁ _ (h.rule Zones 0) (λ z at₂.
      zones_hold z s at₂ 0 blank_zones blank_zones 0 max_time _ (rest_holds k s kind z)))
