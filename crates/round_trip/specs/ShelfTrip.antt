-- The films of a card: what is written is read back, and what is accepted is what would be written.
-- Assumes nothing.
use Rattle.std.specs.Prelude.{ℕ, ◌+◌, ◌≤◌, ◌≡◌, refl, List, ◌∷◌, cond, length, get_or}
use Rattle.std.proofs.Common.{sym, ◌∙◌, arith}
use Rattle.laws.specs.Each.{zero_at}
use Rattle.numbers.specs.Limits.{max_films}
use Rattle.numbers.specs.Refusals.{wrong_films}
use Rattle.leb128.specs.Number.{Bytes}
use Rattle.card.specs.declared.CardRead.{CardRead}
use Rattle.card_field.specs.declared.Rule.TheVariants.{Films}
use Rattle.card_field.specs.Ranges.{fault_of, blocks_fault}
use Rattle.card_field.specs.Row.{row_numbers}
use Rattle.card_field.specs.RangeLaws.{first_none, first_clear, films_range, blocks_range}
use Rattle.card.specs.Card.{zeros, shelf_fault}
use Rattle.card.specs.Read.{blank_films, shelf_from}
use Rattle.legality.specs.Zeros.{at_zeros}
use Rattle.legality.specs.Films.{fault_shelf}
use Rattle.round_trip.specs.Ahead.{Ahead, ahead_next, field_goes, Got, got_goes, accepted_field, ahead_more}
use Rattle.round_trip.specs.RowTrip.{row_goes, RowRest, row_got}
use Rattle.round_trip.specs.Entries.{Agree}

-- the film entries of a record before any is read
pub blank_films_at : (i : ℕ) → get_or blank_films i 0 ≡ 0
unfolding blank_films
blank_films_at i = zero_at max_films i

pub blank_films_long : length blank_films ≡ max_films
unfolding blank_films
blank_films_long = refl

-- ---- what is written is read back

pub shelf_goes : (k : ℕ) (s ns rest : List ℕ) (films at total : ℕ) (go : ℕ → List ℕ → ℕ → CardRead) {r : CardRead}
    → ((next : ℕ) → Ahead s next rest → go films ns next ≡ r)
    → length ns ≡ max_films → Ahead s at (films ∷ row_numbers films 0 ns rest) → shelf_fault k total films ns ≡ 0 → shelf_from k s at total go ≡ r
unfolding shelf_from shelf_fault
shelf_goes k s ns rest films at total go on w a e =
    let l = fault_shelf k total ns films e in
    let c = first_none (fault_of Films 0 films) _ e in
    let u = first_none (cond (zeros films ns) 0 wrong_films) _ c.1 in
    let blank : Agree 0 films blank_films ns = record {
      long = blank_films_long ∙ sym w;
      low = λ j h. absurd (omega arith);
      high = λ j h. blank_films_at j ∙ sym (l.idle j (omega arith));
    } in
    field_goes a (fault_of Films 0) _ (omega (arith, l.count)) c.0
    ∙ row_goes (blocks_fault k total) ◌+◌ (λ x v h. omega (arith, blocks_range k total x v h)) s ns rest (go films) on films _ 0 0 blank_films
    (omega (arith, l.count)) blank (ahead_next a) u.1

-- ---- what is accepted is what would be written

-- the films that are read from an offset on
pub record ShelfRest (k : ℕ) (s : List ℕ) (at total : ℕ) : Type 0 where
  pub films : ℕ
  pub blocks : List ℕ
  pub next : ℕ
  pub inside : next ≤ length s
  pub long : length blocks ≡ max_films
  pub is : (go : ℕ → List ℕ → ℕ → CardRead) → shelf_from k s at total go ≡ go films blocks next
  pub faults : shelf_fault k total films blocks ≡ 0
  pub ahead : (rest : List ℕ) → Ahead s next rest → Ahead s at (films ∷ row_numbers films 0 blocks rest)

-- N of each film after their number
lengths_rest : (k : ℕ) (s : List ℕ) (at total : ℕ) (c : Got (fault_of Films 0) s at)
    → RowRest (blocks_fault k total) ◌+◌ c.value s c.next 0 0 blank_films → ShelfRest k s at total
unfolding shelf_from shelf_fault
lengths_rest k s at total c r =
    let idle = at_zeros c.value r.values (λ i l. sym (r.agrees.high i (omega arith)) ∙ blank_films_at i) in
    record {
      films = c.value;
      blocks = r.values;
      next = r.next;
      inside = r.inside;
      long = sym r.agrees.long ∙ blank_films_long;
      is = λ go. got_goes (fault_of Films 0) s at _ c ∙ r.is (go c.value);
      faults = first_clear c.clear (first_clear (rw idle) r.faults);
      ahead = λ rest a. ahead_more c.stands (r.ahead rest a);
    }

-- an accepted card has its films
pub shelf_got : (k : ℕ) (s : List ℕ) (at total : ℕ) (go : ℕ → List ℕ → ℕ → CardRead) → Bytes s → (shelf_from k s at total go).verdict.number ≡ 0
    → ShelfRest k s at total
unfolding shelf_from
shelf_got k s at total go y e =
    accepted_field (fault_of Films 0) s at _ y e (λ c e₁.
    let few = films_range 0 c.value c.clear in
    lengths_rest k s at total c
    (row_got (blocks_fault k total) ◌+◌ c.value s c.next 0 0 blank_films (go c.value) y c.stands.inside (omega (arith, blank_films_long)) e₁))
