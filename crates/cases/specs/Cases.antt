-- The rows of document 01's bench cases that are marked (p), each an equation that computes; document 02's one-zone case as a loop, with the
-- bench film as one; the bench film with measured overheads; half blocks; a shelf; and the number of document 02's small cards.
use Rattle.std.specs.Prelude.{ℕ, ◌≡◌, List, [], ◌∷◌, length, replicate}
use Rattle.leb128.specs.Number.{groups}
use Rattle.card_field.specs.Ranges.{first, above}
use Rattle.card.specs.Read.{accepted}
use Rattle.card.specs.Read.{read_card}
use Rattle.card_table.specs.Table.{straight}
use Rattle.card.specs.Card.{card_of}
use Rattle.card.specs.declared.CardRead.{CardRead}
use Rattle.card.specs.declared.Figures.{Figures}
use Rattle.card.specs.Card.{length_in}
use Rattle.placement.specs.Showing.{Showing, one, loop, pairs, worst_at}
use Rattle.pacing.specs.Film.{lead}
use Rattle.pacing.specs.Streams.{streams}
use Rattle.pacing.specs.Laid.{slowest, margin}
use Rattle.plan.specs.declared.Plan.{Plan}
use Rattle.plan.specs.Plan.{word_of, time_in, worst2_of, worst_at_of, streams_of, margin_of, plan_of, row, positions_of, leads_of}
use Rattle.plan.specs.Answer.{planned}
use Rattle.small_cards.specs.Cards.{small_cards}
use Rattle.cases.specs.Story.{Story}
use Rattle.cases.specs.Asking.{Asking, asking}
use Rattle.cases.specs.Watching.{Watching}
use Rattle.cases.specs.Bench.{entries, shelf, film, two_films, six_ones, six_times, bench, alike, measured, late, level}

-- what a listing prints of a refused card: the number and the offset
abbrev pub Refuses : List ℕ → ℕ → ℕ → Type 0
Refuses s number offset = ((read_card 1 s).verdict.number ≡ number) × ((read_card 1 s).verdict.place ≡ offset)

-- the same of half blocks
abbrev pub RefusesHalves : List ℕ → ℕ → ℕ → Type 0
RefusesHalves s number offset = ((read_card 2 s).verdict.number ≡ number) × ((read_card 2 s).verdict.place ≡ offset)

-- the plan of figures in a showing: streams, buffer, worst2, worstat (T2.3) and margin
abbrev pub Plans : Showing → Figures → ℕ → ℕ → ℕ → ℕ → ℕ → Type 0
Plans x f streams buffer worst2 worstat margin =
    ◌≡◌ {A = Plan} (plan_of x f) (record {
      figures = f;
      streams = streams;
      buffer = buffer;
      worst2 = worst2;
      margin = margin;
      showing = word_of x;
      worstat = worstat;
    })

-- time(b) of each block of the first film
abbrev pub times_of : Figures → List ℕ
times_of f = row (time_in one f 0) 0 (length_in f 0)

-- a list of two entries
abbrev pub two : List ℕ
two = 0 ∷ 0 ∷ 0 ∷ 0 ∷ 0 ∷ 0 ∷ 0 ∷ 0 ∷ []

-- the number that the planner answers to the card of a film of two blocks
abbrev pub answered : Figures → ℕ
answered f = (planned one (read_card 1 (card_of f)) two two).verdict.number

pub record Cases : Type 0 where
  -- 300 is AC 02, 22270 is FE AD 01
  pub number_300 : groups 300 ≡ 172 ∷ 2 ∷ []
  pub number_22270 : groups 22270 ≡ 254 ∷ 173 ∷ 1 ∷ []
  -- the bench film's card is read as its figures
  pub bench_card : ◌≡◌ {A = CardRead} (read_card 1 (card_of (bench 6 262144))) (record { verdict = accepted; figures = bench 6 262144 })
  -- with the second zone's time 0: refused 6 at 7
  pub zero_time : Refuses (card_of (film six_ones (22270 ∷ 0 ∷ 19090 ∷ 17810 ∷ 16700 ∷ 15720 ∷ []) 6 262144)) 6 7
  -- N 1: 8. N 7: 9
  pub one_block : Refuses (card_of (bench 1 262144)) 8 26
  pub seven_blocks : Refuses (card_of (bench 7 262144)) 9 26
  -- empty card: 1 at 0. First number 81 00: 2 at 0
  pub empty_card : Refuses [] 1 0
  pub longer_form : Refuses (129 ∷ 0 ∷ []) 2 0
  -- the bench film's listing
  pub bench_plan : Plans one (bench 6 262144) 16 812632 37990 0 6550
  pub bench_positions : positions_of one (bench 6 262144) ≡ 0 ∷ 5 ∷ 1 ∷ 4 ∷ 2 ∷ 3 ∷ []
  pub bench_times : times_of (bench 6 262144) ≡ 22270 ∷ 15720 ∷ 20550 ∷ 16700 ∷ 19090 ∷ 17810 ∷ []
  pub bench_leads : leads_of one (bench 6 262144) ≡ 6550 ∷ 0 ∷ 3110 ∷ 0 ∷ 190 ∷ 0 ∷ []
  -- B 260820: 16 streams, buffer 808660. B 260819: 15 streams, buffer 807020
  pub sixteen_streams : Plans one (bench 6 260820) 16 808660 37990 0 6550
  pub fifteen_streams : Plans one (bench 6 260819) 15 807020 37990 0 6550
  -- N 5: positions 1, 5, 2, 4, 3; worst2 36270, margin 4830
  pub five_positions : positions_of one (bench 5 262144) ≡ 1 ∷ 5 ∷ 2 ∷ 4 ∷ 3 ∷ []
  pub five_worst2 : worst2_of one (bench 5 262144) ≡ 36270
  pub five_margin : margin_of one (bench 5 262144) ≡ 4830
  -- one zone, 3 positions of 20000, N 3: positions 0, 2, 1; worst2 40000; all leads 0
  pub three_positions : positions_of one (alike 3 262144) ≡ 0 ∷ 2 ∷ 1 ∷ []
  pub three_worst2 : worst2_of one (alike 3 262144) ≡ 40000
  pub three_leads : leads_of one (alike 3 262144) ≡ 0 ∷ 0 ∷ 0 ∷ []
  -- one zone, 2 positions of 20000, N 2: B 23835 gives 1 stream, 23834 gives 12
  pub one_stream : (answered (alike 2 23835) ≡ 0) × (streams_of one (alike 2 23835) ≡ 1)
  pub no_stream_law : answered (alike 2 23834) ≡ 12
  -- document 02: the one-zone case has the same worst2 and leads as a loop (T7.10)
  pub three_loop_worst2 : worst2_of loop (alike 3 262144) ≡ worst2_of one (alike 3 262144)
  pub three_loop_leads : leads_of loop (alike 3 262144) ≡ leads_of one (alike 3 262144)
  -- the bench film as a loop: the last block and the first are its worst pair
  pub bench_loop_plan : Plans loop (bench 6 262144) 15 807320 38970 5 5570
  pub bench_loop_positions : positions_of loop (bench 6 262144) ≡ 0 ∷ 5 ∷ 1 ∷ 3 ∷ 2 ∷ 4 ∷ []
  pub bench_loop_leads : leads_of loop (bench 6 262144) ≡ 5570 ∷ 0 ∷ 2130 ∷ 0 ∷ 0 ∷ 0 ∷ []
  -- the bench film as kind 2 with the table of its hop and return: its card is read as its figures, and the plan is that of kind 1 (T3.5)
  pub measured_card : ◌≡◌ {A = CardRead} (read_card 1 (card_of (measured (straight 12670 15000) (bench 6 262144))))
      (record { verdict = accepted; figures = measured (straight 12670 15000) (bench 6 262144) })
  pub measured_plan : Plans one (measured (straight 12670 15000) (bench 6 262144)) 16 812632 37990 0 6550
  -- a table that rises late feeds fewer streams than its first two entries would
  pub late_plan : Plans one (measured (late 8 400000) (bench 6 262144)) 8 799532 37990 0 6550
  -- 1 stream, 256 and 255, each decided by one entry of the table
  pub late_one : streams_of one (measured (late 1 257000000) (bench 6 262144)) ≡ 1
  pub level_all : streams_of one (measured (level 268288) (film (2 ∷ []) (1000 ∷ []) 2 262144)) ≡ 256
  pub level_last : streams_of one (measured (level 268289) (film (2 ∷ []) (1000 ∷ []) 2 262144)) ≡ 255
  -- half blocks (ticket 11): the bench film of 3 blocks takes all six positions, a slow and a quick one each; p 37990, 8 streams, 3 × B, no leads
  pub halves_card : ◌≡◌ {A = CardRead} (read_card 2 (card_of (bench 3 262144))) (record { verdict = accepted; figures = bench 3 262144 })
  pub halves_plan : Plans pairs (bench 3 262144) 8 786432 75980 0 0
  pub halves_positions : positions_of pairs (bench 3 262144) ≡ 0 ∷ 5 ∷ 1 ∷ 4 ∷ 2 ∷ 3 ∷ []
  pub halves_leads : leads_of pairs (bench 3 262144) ≡ 0 ∷ 0 ∷ 0 ∷ []
  -- B 260820: 8 streams. B 260819: 7
  pub halves_eight : Plans pairs (bench 3 260820) 8 782460 75980 0 0
  pub halves_seven : Plans pairs (bench 3 260819) 7 782457 75980 0 0
  -- N 2 takes positions 2 to 5; with the two slowest alike the second block of three is the first that takes p
  pub halves_two : positions_of pairs (bench 2 262144) ≡ 2 ∷ 5 ∷ 3 ∷ 4 ∷ []
  pub halves_second : (let f = film six_ones (22270 ∷ 22270 ∷ 19090 ∷ 17810 ∷ 16700 ∷ 15720 ∷ []) 3 262144 in
      (worst2_of pairs f ≡ 77940) × (worst_at_of pairs f ≡ 1))
  -- N 4: 28, where a block on one position each would fit
  pub halves_four : RefusesHalves (card_of (bench 4 262144)) 28 26
  pub four_blocks : (read_card 1 (card_of (bench 4 262144))).verdict.number ≡ 0
  -- 128 streams and 127, decided by the table's entry for 256 visits
  pub halves_all : streams_of pairs (measured (level 268288) (film (4 ∷ []) (1000 ∷ []) 2 262144)) ≡ 128
  pub halves_last : streams_of pairs (measured (level 268289) (film (4 ∷ []) (1000 ∷ []) 2 262144)) ≡ 127
  -- a shelf of 2 and 3 blocks on the bench film's zones (ticket 14): the first on the two highest positions, the second on three of the four left.
  -- Its own first pair is the worst of both, block 2 through the lists; leads and margin go by it
  pub shelf_card : ◌≡◌ {A = CardRead} (read_card 1 (card_of two_films)) (record { verdict = accepted; figures = two_films })
  pub shelf_plan : Plans one two_films 15 796707 38360 2 2740
  pub shelf_positions_law : positions_of one two_films ≡ 4 ∷ 5 ∷ 1 ∷ 3 ∷ 2 ∷ []
  pub shelf_leads_law : leads_of one two_films ≡ 0 ∷ 0 ∷ 2740 ∷ 0 ∷ 0 ∷ []
  -- no film, and 17: 30 at the count. The second film: 1 block is 8, 5 blocks are 9, each at its number; 16,384 and 2 blocks are 30 there
  pub shelf_empty : Refuses (card_of (shelf six_ones six_times [] 262144)) 30 25
  pub shelf_full : Refuses (card_of (shelf six_ones six_times (replicate 17 2) 262144)) 30 25
  pub shelf_short : Refuses (card_of (shelf six_ones six_times (2 ∷ 1 ∷ []) 262144)) 8 27
  pub shelf_above : Refuses (card_of (shelf six_ones six_times (2 ∷ 5 ∷ []) 262144)) 9 27
  pub shelf_many : Refuses (card_of (shelf (20000 ∷ []) (20000 ∷ []) (16384 ∷ 2 ∷ []) 262144)) 30 12
  -- joins on its desk
  pub shelf_desk : Watching
  -- document 02: there are 1511 small cards (T13.4)
  pub small_cards_law : length small_cards ≡ 1511
  -- the desk case, and requests in the order they asked
  pub desk : Story
  pub asking : Asking
