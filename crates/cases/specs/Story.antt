-- Document 01's desk case as document 02 has it (ticket 5): the bench film's desk, call by call up to its second begin. The same desk where slot 1
-- asks a sweep later, a desk with a tail, and the first sweep with a measured overhead.
use Rattle.std.specs.Prelude.{ℕ, ◌+◌, ◌*◌, ◌≡◌, refl, List, [], ◌∷◌, get_or, replicate}
use Rattle.laws.specs.Runs.{sum_by, all_by}
use Rattle.laws.specs.Greatest.{greatest_of, greatest, first_reaching, earliest_of}
use Rattle.laws.specs.Map.{map_from}
use Rattle.laws.specs.Indices.{all_from, lowest_from}
use Rattle.laws.specs.Starts.{start_of}
use Rattle.numbers.specs.Slots.{draining, sweeping}
use Rattle.words.specs.Words.{words_of, bytes_of}
use Rattle.card_field.specs.Ranges.{first, below, above, outside, then_above, then_below, fault_of, time_fault, room_fault, blocks_fault}
use Rattle.card_field.specs.Row.{row_fault}
use Rattle.card_table.specs.Table.{straight_from, straight, is_line, straight_fault, measured_fault, table_fault}
use Rattle.card.specs.Card.{total_positions, shelf_fault, film_fault, zone_faults, zeros_from, unused_zero, record_fault}
use Rattle.card.specs.declared.Figures.{Figures}
use Rattle.placement.specs.Placement.{zigzag, worst_time}
use Rattle.placement.specs.Showing.{one, worst_at}
use Rattle.placement.specs.Zones.{time_at}
use Rattle.pacing.specs.Film.{row as run, span, lead}
use Rattle.pacing.specs.Streams.{overhead, load, streams, buffer_of}
use Rattle.pacing.specs.Laid.{slowest, margin}
use Rattle.pacing.specs.Shelves.{worst_shelf, slowest_shelf, margin_shelf}
use Rattle.plan.specs.Plan.{showing_of, worst2_of, worst_film_of, worst_at_of, streams_of, margin_of, lead_of, buffer_size, plan_of, row, positions_of, leads_of}
use Rattle.plan.specs.Plan.{rows_of}
use Rattle.plan.specs.Answer.{begins, has_numbers, has_positions, has_leads, is_plan}
use Rattle.rules.specs.Scheduler as S
use Rattle.rules.specs.Sound.{is_zero, sound_slot, sound}
use Rattle.rules.specs.Refusals.{draw_allowed, draw_held, judged, verdict}
use Rattle.rules.specs.Order.{eldest, dropped, member, waiting_count, eldest_lead, served, placed_all, by_place}
use Rattle.rules.specs.Calls.{refusals, accepted, answer}
use Rattle.rules.specs.Arrays.{slots_of}
use Rattle.desk.specs.declared.Desk.{Desk}
use Rattle.desk.specs.Records.{record_of}
use Rattle.desk.specs.declared.Begun.{Begun}
use Rattle.desk.specs.Desk.{supply_of, slots_in, view_of, desk_of, zeros, fresh_desk, open_desk, answer_of, answered, join_desk, begin_desk, end_desk, array, fetches_of}
use Rattle.cases.specs.Bench.{entries, shelf, bench, measured, dear}

-- the bench film's plan and its two lists
abbrev pub figures : Figures
figures = bench 6 262144

unfoldable pub positions : List ℕ
positions = bytes_of (positions_of one figures)

unfoldable pub leads : List ℕ
leads = bytes_of (leads_of one figures)

-- draws for the 16 slots: slot 0 draws d
abbrev pub draws : ℕ → List ℕ
draws d = bytes_of (d ∷ replicate 15 0)

-- the desk opens; slot 0 joins at block 0; the first sweep
unfoldable pub joined_desk : Desk
joined_desk = (join_desk (open_desk (plan_of one figures) positions leads).desk positions leads 0 0 0).desk

unfoldable pub first_begin : Begun
first_begin = begin_desk joined_desk positions leads 16

-- end with zeros; slot 1 joins at block 0; the second sweep
unfoldable pub first_end : Desk
first_end = (end_desk first_begin.desk positions leads (draws 0)).desk

unfoldable pub second_join : Desk
second_join = (join_desk first_end positions leads 1 0 0).desk

unfoldable pub second_begin : Begun
second_begin = begin_desk second_join positions leads 16

-- another desk: nobody asks at the second sweep; slot 0 draws 21695; then slot 1 joins at block 0; the third sweep
unfoldable pub alone_begin : Begun
alone_begin = begin_desk first_end positions leads 16

unfoldable pub alone_end : Desk
alone_end = (end_desk alone_begin.desk positions leads (draws 21695)).desk

unfoldable pub later_join : Desk
later_join = (join_desk alone_end positions leads 1 0 0).desk

unfoldable pub later_begin : Begun
later_begin = begin_desk later_join positions leads 16

-- a desk in a sweep of no fetches, whose only slot is tail and holds 5
unfoldable pub tail_desk : Desk
tail_desk = record_of (plan_of one figures) sweeping (array (draining ∷ [])) (array (6 ∷ [])) (array (5 ∷ [])) zeros

-- the first sweep of the bench film with 30000 for the overhead of one block
unfoldable pub dear_begin : Begun
dear_begin = begin_desk (join_desk (open_desk (plan_of one (measured dear figures)) positions leads).desk positions leads 0 0 0).desk positions leads 16

-- the floor with the lead of asked slot i added, in two-millionths of a byte
unfoldable pub floor_for : Desk → ℕ → ℕ
floor_for d i = let p = supply_of d.plan in S.low_water p (S.leads p (slots_in d) + p.lead (S.at p (slots_in d) i).next)

pub record Story : Type 0 where
  -- `begin gives position 0, slot 0, block 0, bound 49940`
  pub first_fetch : (first_begin.verdict.number ≡ 0) × (first_begin.fetches.count ≡ 1) × (get_or first_begin.fetches.positions 0 9 ≡ 0)
      × (get_or first_begin.fetches.slots 0 9 ≡ 0) × (get_or first_begin.fetches.blocks 0 9 ≡ 0)
  pub first_bound : first_begin.bound ≡ 49940
  -- `End with zeros: held 262144`
  pub first_held : get_or first_end.held 0 0 ≡ 262144
  -- `slot 0 now stays filling at the second begin, slot 1 is granted there, and the bound is 78330` (T5.8)
  pub second_kinds : (get_or second_begin.desk.kinds 0 0 ≡ 2) × (get_or second_begin.desk.kinds 1 0 ≡ 2)
  pub second_bound : second_begin.bound ≡ 78330
  -- to play slot 0 would have to hold 263781.5, the floor with slot 1's lead added (T5.5), in two-millionths
  pub second_floor : floor_for second_join 1 ≡ 2 * 263781500000
  -- slot 1 has a place while it asks (T5.3, T5.4)
  pub second_places : (get_or second_join.places 1 0 ≡ 1) × (get_or second_begin.desk.places 1 0 ≡ 0)
  -- where nobody asks slot 0 plays, bound 43390. It may draw 21695; 21696 is 20
  pub alone_kind : get_or alone_begin.desk.kinds 0 0 ≡ 3
  pub alone_bound : alone_begin.bound ≡ 43390
  pub drawn : (end_desk alone_begin.desk positions leads (draws 21695)).verdict.number ≡ 0
  pub overdrawn : ((end_desk alone_begin.desk positions leads (draws 21696)).verdict.number ≡ 20)
      × ((end_desk alone_begin.desk positions leads (draws 21696)).verdict.place ≡ 0)
  -- after 21695 it holds 502593, and slot 1, which joins then, is granted at the next begin against 264559
  pub alone_held : get_or alone_end.held 0 0 ≡ 502593
  pub later_kinds : (get_or later_begin.desk.kinds 0 0 ≡ 3) × (get_or later_begin.desk.kinds 1 0 ≡ 2)
  pub later_floor : floor_for later_join 1 ≡ 2000000 * 264559
  -- a tail that holds 5 may draw 5 and is free then; 6 is 21, and 7501, above c × 15000 / 1,000,000, is 20
  pub tail_drawn : ((end_desk tail_desk positions leads (draws 5)).verdict.number ≡ 0) × (get_or (end_desk tail_desk positions leads (draws 5)).desk.kinds 0 9 ≡ 0)
  pub tail_held : ((end_desk tail_desk positions leads (draws 6)).verdict.number ≡ 21) × ((end_desk tail_desk positions leads (draws 6)).verdict.place ≡ 0)
  pub tail_limit : (end_desk tail_desk positions leads (draws 7501)).verdict.number ≡ 20
  -- the sweep bound has the table's entry for the one block that is fetched (T3.5)
  pub dear_bound : (dear_begin.fetches.count ≡ 1) × (dear_begin.bound ≡ 52270)

pub story : Story
unfolding sum_by all_by greatest_of greatest map_from all_from lowest_from words_of bytes_of first below above outside then_above then_below fault_of time_fault room_fault blocks_fault total_positions straight_from straight is_line straight_fault row_fault measured_fault table_fault shelf_fault film_fault zone_faults zeros_from unused_zero record_fault zigzag worst_time time_at run span lead overhead load streams buffer_of slowest margin first_reaching earliest_of worst_at showing_of worst2_of worst_at_of streams_of margin_of buffer_size plan_of row positions_of leads_of begins has_numbers has_positions has_leads is_plan S.before S.insert S.sorted S.entries_at S.reads S.lead_of S.leads S.low_water S.holds S.joined S.left S.started_slot S.started S.players_hold S.grantable S.granted S.is_fetched S.entries_from S.entries S.time_of S.times S.fetch_count S.bound S.swept_by S.released S.ended_slot S.ended S.most_drawn S.draw_limit is_zero sound_slot sound draw_allowed draw_held judged verdict eldest dropped member waiting_count eldest_lead served placed_all by_place refusals accepted answer slots_of supply_of view_of desk_of zeros fresh_desk open_desk answer_of answered join_desk begin_desk end_desk array fetches_of entries shelf positions leads joined_desk first_begin first_end second_join second_begin alone_begin alone_end later_join later_begin tail_desk dear dear_begin floor_for start_of worst_shelf slowest_shelf margin_shelf rows_of worst_film_of
story = record {
  first_fetch = (refl, refl, refl, refl, refl);
  first_bound = refl;
  first_held = refl;
  second_kinds = (refl, refl);
  second_bound = refl;
  second_floor = refl;
  second_places = (refl, refl);
  alone_kind = refl;
  alone_bound = refl;
  drawn = refl;
  overdrawn = (refl, refl);
  alone_held = refl;
  later_kinds = (refl, refl);
  later_floor = refl;
  tail_drawn = (refl, refl);
  tail_held = (refl, refl);
  tail_limit = refl;
  dear_bound = (refl, refl);
}
