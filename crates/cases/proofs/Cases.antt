-- Laws of what specs/Cases defines.
use Rattle.std.specs.Prelude.{refl}
use Rattle.leb128.specs.Number.{groups_from, groups, continuing, joined, judged, number_in, number_at}
use Rattle.card_field.specs.Ranges.{first, below, above, outside, then_above, then_below, fault_of, time_fault, room_fault, blocks_fault}
use Rattle.card_field.specs.Figure.{on_fault, on_number, field_at}
use Rattle.card_field.specs.Row.{row_numbers}
use Rattle.card.specs.Read.{blank_zones, blank_films, blank_table, blank_figures, refused_card, then_field, card_end, row_from, moves_from, entries_from}
use Rattle.card.specs.Read.{table_from, shelf_from, film_from, zones_from, read_card}
use Rattle.card_table.specs.Table.{straight_from, straight, table_numbers}
use Rattle.card.specs.Card.{film_numbers, zone_numbers, numbers_of, bytes_of, card_of}
use Rattle.card.specs.Card.{total_positions}
use Rattle.laws.specs.Runs.{sum_by}
use Rattle.laws.specs.Greatest.{greatest_of, greatest, first_reaching, earliest_of}
use Rattle.laws.specs.Starts.{start_of}
use Rattle.words.specs.Words.{words_of}
use Rattle.placement.specs.Placement.{zigzag, worst_time}
use Rattle.placement.specs.Circle.{round, falls, rank, ring, worst_round}
use Rattle.placement.specs.Pairs.{worst_match}
use Rattle.placement.specs.Showing.{one, loop, worst_at}
use Rattle.placement.specs.Zones.{time_at}
use Rattle.pacing.specs.Film.{row as run, span, lead}
use Rattle.pacing.specs.Streams.{overhead, load, streams, buffer_of}
use Rattle.pacing.specs.Laid.{slowest, margin}
use Rattle.pacing.specs.Shelves.{worst_shelf, slowest_shelf, margin_shelf}
use Rattle.plan.specs.Plan.{rows_of}
use Rattle.plan.specs.Plan.{worst2_of, worst_film_of, worst_at_of, streams_of, margin_of, buffer_size, plan_of, blank_plan, row, positions_of, leads_of}
use Rattle.plan.specs.Answer.{plan_fault, refusal, planned}
use Rattle.small_cards.specs.Cards.{small_cards}
use Rattle.small_cards.specs.Computed.{how_many_law}
use Rattle.cases.specs.Story.{story}
use Rattle.cases.specs.Asking.{asking}
use Rattle.cases.specs.Watching.{watching}
use Rattle.cases.specs.Bench.{entries, shelf, film, bench, measured, late, level}
use Rattle.cases.specs.Cases.{Cases}

pub cases : Cases
unfolding groups_from groups continuing joined judged number_in number_at first below above outside then_above then_below fault_of time_fault room_fault blocks_fault on_fault on_number field_at blank_zones blank_films blank_table blank_figures refused_card then_field card_end row_from moves_from entries_from table_from shelf_from film_from zones_from read_card row_numbers straight_from straight table_numbers film_numbers zone_numbers numbers_of bytes_of card_of entries shelf late level total_positions sum_by greatest_of greatest words_of zigzag worst_time round falls rank ring worst_round worst_match time_at run span lead overhead load streams buffer_of slowest margin first_reaching earliest_of worst_at worst2_of worst_at_of streams_of margin_of buffer_size plan_of blank_plan row positions_of leads_of plan_fault refusal planned start_of worst_shelf slowest_shelf margin_shelf rows_of worst_film_of
cases = record {
  number_300 = refl;
  number_22270 = refl;
  bench_card = refl;
  zero_time = (refl, refl);
  one_block = (refl, refl);
  seven_blocks = (refl, refl);
  empty_card = (refl, refl);
  longer_form = (refl, refl);
  bench_plan = refl;
  bench_positions = refl;
  bench_times = refl;
  bench_leads = refl;
  sixteen_streams = refl;
  fifteen_streams = refl;
  five_positions = refl;
  five_worst2 = refl;
  five_margin = refl;
  three_positions = refl;
  three_worst2 = refl;
  three_leads = refl;
  one_stream = (refl, refl);
  no_stream_law = refl;
  three_loop_worst2 = refl;
  three_loop_leads = refl;
  bench_loop_plan = refl;
  bench_loop_positions = refl;
  bench_loop_leads = refl;
  measured_card = refl;
  measured_plan = refl;
  late_plan = refl;
  late_one = refl;
  level_all = refl;
  level_last = refl;
  halves_card = refl;
  halves_plan = refl;
  halves_positions = refl;
  halves_leads = refl;
  halves_eight = refl;
  halves_seven = refl;
  halves_two = refl;
  halves_second = (refl, refl);
  halves_four = (refl, refl);
  four_blocks = refl;
  halves_all = refl;
  halves_last = refl;
  shelf_card = refl;
  shelf_plan = refl;
  shelf_positions_law = refl;
  shelf_leads_law = refl;
  shelf_empty = (refl, refl);
  shelf_full = (refl, refl);
  shelf_short = (refl, refl);
  shelf_above = (refl, refl);
  shelf_many = (refl, refl);
  shelf_desk = watching;
  small_cards_law = how_many_law;
  desk = story;
  asking = asking;
}
