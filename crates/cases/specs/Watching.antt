-- A shelf's desk (document 02, ticket 14): joins to each film and to none, and the fetch of a block.
use Rattle.std.specs.Prelude.{ℕ, ◌≡◌, refl, List, get_or}
use Rattle.laws.specs.Runs.{sum_by, all_by}
use Rattle.laws.specs.Greatest.{greatest_of, greatest, first_reaching, earliest_of}
use Rattle.words.specs.Words.{words_of, bytes_of}
use Rattle.card_field.specs.Ranges.{first, below, above, outside, then_above, then_below, fault_of, time_fault, room_fault, blocks_fault}
use Rattle.card_field.specs.Row.{row_fault}
use Rattle.card_table.specs.Table.{straight_from, straight, is_line, straight_fault, measured_fault, table_fault}
use Rattle.card.specs.Card.{total_positions, shelf_fault, film_fault, zone_faults, zeros_from, unused_zero, record_fault}
use Rattle.placement.specs.Placement.{zigzag, worst_time}
use Rattle.placement.specs.Showing.{one, worst_at}
use Rattle.placement.specs.Zones.{time_at}
use Rattle.pacing.specs.Film.{row as run, span, lead}
use Rattle.pacing.specs.Streams.{overhead, load, streams, buffer_of}
use Rattle.pacing.specs.Laid.{slowest, margin}
use Rattle.pacing.specs.Shelves.{worst_shelf, slowest_shelf, margin_shelf}
use Rattle.plan.specs.Plan.{rows_of}
use Rattle.plan.specs.Plan.{showing_of, worst2_of, worst_film_of, worst_at_of, streams_of, margin_of, lead_of, buffer_size, plan_of, row, positions_of, leads_of}
use Rattle.plan.specs.Answer.{begins, has_numbers, has_positions, has_leads, is_plan}
use Rattle.rules.specs.Scheduler as S
use Rattle.rules.specs.Sound.{is_zero, sound_slot, sound}
use Rattle.rules.specs.Order.{eldest, dropped, member, waiting_count, eldest_lead, served, placed_all, by_place}
use Rattle.rules.specs.Calls.{refusals, accepted, answer}
use Rattle.rules.specs.Arrays.{slots_of}
use Rattle.desk.specs.declared.Answer.{Answer}
use Rattle.desk.specs.declared.Begun.{Begun}
use Rattle.laws.specs.Starts.{start_of}
use Rattle.laws.specs.Indices.{all_from}
use Rattle.rules.specs.Refusals.{judged, verdict}
use Rattle.desk.specs.Desk.{supply_of, view_of, desk_of, zeros, fresh_desk, open_desk, answer_of, answered, join_desk, begin_desk, array, fetches_of}
use Rattle.cases.specs.Bench.{entries, shelf, two_films}

-- its plan and its two lists
unfoldable pub places : List ℕ
places = bytes_of (positions_of one two_films)

unfoldable pub ahead : List ℕ
ahead = bytes_of (leads_of one two_films)

-- slot 0 joins a block of a film on the desk just opened
unfoldable pub joins : ℕ → ℕ → Answer
joins block film = join_desk (open_desk (plan_of one two_films) places ahead).desk places ahead 0 block film

unfoldable pub first_sweep : Begun
first_sweep = begin_desk (joins 1 1).desk places ahead 15

pub record Watching : Type 0 where
  -- slot 0 names film 1 and its block 1: 65,536 and 1
  pub second_film : ((joins 1 1).verdict.number ≡ 0) × (get_or (joins 1 1).desk.next 0 0 ≡ 65537)
  -- block 1 of film 1 lies at position 3, and its entry says block 1
  pub second_fetch : (first_sweep.fetches.count ≡ 1) × (get_or first_sweep.fetches.positions 0 9 ≡ 3) × (get_or first_sweep.fetches.blocks 0 9 ≡ 1)
  -- film 2 is 31, ahead of 18; block 2 of film 0 and block 3 of film 1 are 18, and so is 65,536 of film 0, which is no block of film 1
  pub no_film : (joins 9 2).verdict.number ≡ 31
  pub no_block : ((joins 2 0).verdict.number ≡ 18) × ((joins 3 1).verdict.number ≡ 18) × ((joins 65536 0).verdict.number ≡ 18)

pub watching : Watching
unfolding sum_by all_by greatest_of greatest all_from words_of bytes_of first below above outside then_above then_below fault_of time_fault room_fault blocks_fault total_positions straight_from straight is_line straight_fault row_fault measured_fault table_fault shelf_fault film_fault zone_faults zeros_from unused_zero record_fault zigzag worst_time time_at run span lead overhead load streams buffer_of slowest margin first_reaching earliest_of worst_at showing_of worst2_of worst_at_of streams_of margin_of buffer_size plan_of row positions_of leads_of begins has_numbers has_positions has_leads is_plan S.before S.insert S.sorted S.entries_at S.reads S.lead_of S.leads S.low_water S.holds S.joined S.left S.started_slot S.started S.players_hold S.grantable S.granted S.is_fetched S.entries_from S.entries S.time_of S.times S.fetch_count S.bound is_zero sound_slot sound judged verdict eldest dropped member waiting_count eldest_lead served placed_all by_place refusals accepted answer slots_of supply_of view_of desk_of zeros fresh_desk open_desk answer_of answered join_desk begin_desk array fetches_of entries shelf start_of worst_shelf slowest_shelf margin_shelf rows_of worst_film_of places ahead joins first_sweep
watching = record {
  second_film = (refl, refl);
  second_fetch = (refl, refl, refl);
  no_film = refl;
  no_block = (refl, refl, refl);
}
