-- What is computed of the list of small cards, card by card: each but for its overheads is small, each is before the next, and there are 1511.
-- Assumes nothing.
use Rattle.std.specs.Prelude.{ℕ, zero, suc, ◌+◌, ◌≡◌, refl, Bool, true, ◌&&◌, length, get_or, leb, eqb}
use Rattle.laws.specs.Runs.{sum_by, all_by}
use Rattle.laws.specs.Members.{upto, each}
use Rattle.numbers.specs.Limits.{max_zones, max_time, max_tried, max_films, max_bytes, max_rate}
use Rattle.card.specs.declared.Figures.{Figures}
use Rattle.card_field.specs.declared.Rule.TheVariants.{Zones, Positions, Measure}
use Rattle.card_field.specs.Ranges.{first, below, above, outside, then_above, then_below, fault_of, time_fault, room_fault, blocks_fault}
use Rattle.card_field.specs.Row.{row_fault}
use Rattle.card.specs.Card.{length_in, one_film, shelf_fault, zeros_from, unused_zero}
use Rattle.card.specs.Read.{blank_zones, blank_films, blank_figures}
use Rattle.small_cards.specs.Cards.{entered, small_figures, threes, falling, lengths, small_cards}
use Rattle.small_cards.specs.Order.{before, in_order}

-- (p): 1511 of them
pub how_many_law : length small_cards ≡ 1511
unfolding small_cards each threes falling lengths upto sum_by
how_many_law = refl

-- no refusal from the i-th zone on, `left` more, but for the overheads
unfoldable pub zones_pass : ℕ → ℕ → Figures → ℕ → ℕ → Bool
zones_pass zero i f total before =
    eqb (shelf_fault 1 total f.films f.blocks) 0 && (eqb (fault_of Measure max_bytes f.bytes) 0 && eqb (fault_of Measure max_rate f.rate) 0)
zones_pass (suc left) i f total before =
    eqb (fault_of Positions total (get_or f.positions i 0)) 0
    && (eqb (time_fault (get_or f.times 0 0) before (get_or f.times i 0)) 0
    && zones_pass left (i + 1) f (total + get_or f.positions i 0) (get_or f.times i 0))

-- nor of the whole record
unfoldable pub passes : Figures → Bool
passes f = eqb (fault_of Zones 0 f.zones) 0 && (unused_zero f && zones_pass f.zones 0 f 0 max_time)

-- the form of a small card, as a test
unfoldable pub has_form : Figures → Bool
has_form f =
    passes f
    && ((eqb (length f.positions) max_zones && (eqb (length f.times) max_zones && eqb (length f.blocks) max_films))
    && ((leb f.zones 3 && (eqb f.films 1 && leb (length_in f 0) max_tried))
    && ((all_by (λ (p : ℕ). leb p 3) f.positions && all_by (λ (t : ℕ). leb t 3) f.times)
    && (eqb f.bytes 1000 && eqb f.rate 1000))))

pub all_have_form : all_by has_form small_cards ≡ true
unfolding small_cards each threes falling lengths upto sum_by all_by small_figures one_film entered blank_zones first below above outside then_above then_below
    fault_of time_fault room_fault blocks_fault row_fault shelf_fault zeros_from unused_zero zones_pass passes has_form
all_have_form = refl

pub all_in_order : in_order blank_figures small_cards ≡ true
unfolding small_cards each threes falling lengths upto sum_by small_figures one_film entered blank_zones blank_films blank_figures before in_order
all_in_order = refl
