-- The writer makes the card of small figures, and both planners agree on it.
-- Assumes nothing.
use Rattle.std.specs.Prelude.{ℕ, ◌*◌, ◌≤◌, ◌<◌, ◌≡◌, refl, List, length, take, drop}
use Rattle.std.proofs.Common.{sym, ◌∙◌, subst, arith}
use Rattle.std.proofs.Math.Path.{ap}
use Rattle.std.proofs.Math.ListN.{length-append}
use Rattle.std.proofs.Math.Seq.{take-append_seam}
use borrow.Author.Tests.{le-leb, eq-eqb}
use Rattle.numbers.specs.Units.{parts}
use Rattle.numbers.specs.Limits.{max_card}
use Rattle.words.specs.Words.{words_of}
use Rattle.words.specs.Laws.{words_length}
use Rattle.card.specs.declared.Figures.{Figures}
use Rattle.card.specs.declared.CardRead.{CardRead}
use Rattle.card.specs.declared.Verdict.{Verdict}
use Rattle.card.specs.declared.CardWritten.{CardWritten}
use Rattle.card_field.specs.Ranges.{first}
use Rattle.card_table.specs.Table.{straight}
use Rattle.card_table.specs.TableLaws.{straight_at}
use Rattle.card.specs.Card.{Legal, length_in, blocks_of, card_of, write_fault, written_card, buffer_after}
use Rattle.card.specs.Read.{accepted, read_card}
use Rattle.legality.specs.Legality.{legal_fault}
use Rattle.round_trip.specs.RoundTrip.{legal_read}
use Rattle.round_trip.specs.Size.{legal_size}
use Rattle.laws.specs.Greatest.{greatest_of_least}
use Rattle.placement.specs.Showing.{Showing, one, loop, pairs, visits_of}
use Rattle.placement.specs.Zones.{time_at_within}
use Rattle.pacing.specs.Laid.{slowest, worst_within}
use Rattle.pacing.specs.Streams.{overhead, overhead_entry, load, cap_of, cap_some, streams_best}
use Rattle.plan.specs.declared.Planned.{Planned}
use Rattle.plan.specs.Plan.{time_on, position_in, entries_of, time_in, worst2_of, over_of, streams_of}
use Rattle.plan.specs.Legal.{total_zones, some_film}
use Rattle.plan.proofs.Legal.{position_below}
use Rattle.plan.specs.Ways.{by_none, some_stream}
use Rattle.plan.specs.Answer.{planned}
use Rattle.layings.specs.Times.{single_blocks, single_worst}
use Rattle.try_all.specs.Answer.{Few, tried}
use Rattle.try_all.proofs.Ways.{same_answer}
use Rattle.small_cards.specs.Cards.{Small}
use Rattle.compare_planners.specs.Compare.{unequal_of, eight, unequal_on}

-- ---- the card is written

module _ (f : Figures) (ok : Legal 1 f) (out : List ℕ) (room : max_card ≤ length out) where
  no_fault : write_fault f (length out) ≡ 0
  unfolding write_fault first
  no_fault = rw (legal_fault 1 f ok, le-leb (length (card_of f)) (length out) (omega (arith, (legal_size 1 f ok).1)))

  pub written_length : (w : CardWritten) → w ≡ written_card f out → w.length ≡ length (card_of f)
  unfolding written_card
  written_length w e = ap (λ (v : CardWritten). v.length) (rw no_fault at e)

  -- the first bytes of the buffer are the card
  pub written_card_law : (out' : List ℕ) (n : ℕ) → out' ≡ buffer_after f out → n ≡ length (card_of f) → take n out' ≡ card_of f
  unfolding buffer_after
  written_card_law out' n e d = rw (d, rw no_fault at e) (take-append_seam (card_of f) (drop (length (card_of f)) out))

  pub written_short : (out' : List ℕ) (n : ℕ) → out' ≡ buffer_after f out → n ≡ length (card_of f) → n ≤ length out'
  unfolding buffer_after
  written_short out' n e d = rw (d, rw no_fault at e) (omega (arith, length-append (card_of f) (drop (length (card_of f)) out)))

-- ---- and both planners agree on it

eight_long : length eight ≡ 32
unfolding eight
eight_long = refl

eight_room : (f : Figures) → Small f → length_in f 0 ≤ length (words_of eight)
eight_room f small = omega (arith, words_length eight, eight_long, small.blocks)

-- the second planner tries it
small_few : (f : Figures) → Small f → Few f
small_few f small = (omega (arith, small.film), small.blocks)

pub agree : (x : Showing) → visits_of x ≡ 1 → (f : Figures) → Small f → unequal_on x (card_of f) ≡ 0
unfolding unequal_of unequal_on
agree x v f small =
    rw (legal_read 1 f small.legal)
    (rw (eq-eqb (planned x read eight eight).plan.worst2 (tried x read).worst2
    (sym (same_answer x v read (λ z. small.legal) eight eight (small_few f small) room room).1)))
  where
    read : CardRead
    read = record { verdict = accepted; figures = f }

    room : length_in f 0 ≤ length (words_of eight)
    room = eight_room f small

-- ---- and neither refuses it

-- a block that is visited once takes the time of its position
time_once : (x : Showing) → visits_of x ≡ 1 → (f : Figures) (i b : ℕ) → time_in x f i b ≡ time_on f (position_in x f i b)
time_once one v f i b = refl
time_once loop v f i b = refl
time_once pairs v f i b = absurd (omega arith)

-- no two blocks take more than 6
worst_six : (x : Showing) → visits_of x ≡ 1 → (f : Figures) → Small f → worst2_of x f ≤ 6
unfolding slowest
worst_six x v f small = let N = length_in f 0 in
    omega (
      arith,
      single_worst x f small.film,
      worst_within (time_on f) (position_in x f 0) N x,
      greatest_of_least (time_in x f 0) N 3 (λ b u. three b u),
    )
  where
    legal : Legal (visits_of x) f
    legal = subst (λ (k : ℕ). Legal k f) (sym v) small.legal

    entries : visits_of x * length_in f 0 ≡ length_in f 0
    entries = rw v (omega arith)

    three : (b : ℕ) → b < length_in f 0 → time_in x f 0 b ≤ 3
    three b u = rw (time_once x v f 0 b) (time_at_within f.positions f.times f.zones (position_in x f 0 b) 3 small.times
        (omega (arith, position_below x f legal 0 b (some_film f legal) (omega (arith, entries)), total_zones f legal)))

-- so a stream fits
one_fits : (c w B visits : ℕ) (table : List ℕ) → c ≡ 1000 → B ≡ 1000 → visits ≡ 1 → table ≡ straight 1 1 → w ≤ 6
    → load c w (λ k. overhead table (visits * k)) 1 ≤ parts * B
unfolding load
one_fits c w B visits table ec eb ev et l = rw (ec, eb, ev, et) (omega (arith, overhead_entry (straight 1 1) 1 (omega arith), straight_at 1 1 1 (omega arith)))

fed : (x : Showing) → visits_of x ≡ 1 → (f : Figures) → Small f → streams_of x f ≡ 0 → ⊥
unfolding streams_of
fed x v f small z =
    let m = small.measures in
    omega (
      arith,
      one_fits f.rate (worst2_of x f) f.bytes (visits_of x) f.table m.2 m.1 v m.3 (worst_six x v f small),
      streams_best (cap_of x) f.rate (worst2_of x f) (over_of x f) f.bytes (worst2_of x f) 1 (omega arith) (omega arith) (cap_some x),
    )

pub accepted_both : (x : Showing) → visits_of x ≡ 1 → (f : Figures) → Small f
    → ((planned x (read_card 1 (card_of f)) eight eight).verdict.number ≡ 0) × ((tried x (read_card 1 (card_of f))).verdict.number ≡ 0)
accepted_both x v f small =
    rw (legal_read 1 f small.legal)
    (number, ap (λ (v : Verdict). v.number) (same_answer x v read (λ z. small.legal) eight eight (small_few f small) room room).0 ∙ number)
  where
    read : CardRead
    read = record { verdict = accepted; figures = f }

    room : length_in f 0 ≤ length (words_of eight)
    room = eight_room f small

    blocks : blocks_of f ≤ length (words_of eight)
    blocks = omega (arith, single_blocks f small.film, room)

    entries : entries_of x f ≤ length (words_of eight)
    entries = rw v (omega (arith, blocks))

    number : (planned x read eight eight).verdict.number ≡ 0
    number = ap (λ (a : Planned). a.verdict.number)
        (sym (by_none x read eight eight refl (some_stream x f (length (words_of eight)) (length (words_of eight)) entries blocks (fed x v f small))))
