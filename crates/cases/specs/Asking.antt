-- Document 02, ticket 5: requests in the order they asked, on desks of the bench film.
use Rattle.std.specs.Prelude.{ℕ, ◌≡◌, refl, List, [], ◌∷◌, ◌++◌, take, replicate}
use Rattle.laws.specs.Runs.{sum_by, all_by}
use Rattle.laws.specs.Greatest.{greatest_of, greatest, first_reaching, earliest_of}
use Rattle.words.specs.Words.{words_of, bytes_of}
use Rattle.card_field.specs.Ranges.{first, below, above, outside, then_above, then_below, fault_of, time_fault, room_fault, blocks_fault}
use Rattle.card_field.specs.Row.{row_fault}
use Rattle.card_table.specs.Table.{straight_from, straight, is_line, straight_fault, measured_fault, table_fault}
use Rattle.card.specs.Card.{total_positions, shelf_fault, film_fault, zone_faults, zeros_from, unused_zero, record_fault}
use Rattle.placement.specs.Placement.{zigzag, worst_time}
use Rattle.placement.specs.Showing.{one, worst_at}
use Rattle.placement.specs.Zones.{time_at}
use Rattle.pacing.specs.Film.{row as run, span, lead}
use Rattle.pacing.specs.Streams.{overhead, load, streams, buffer_of}
use Rattle.pacing.specs.Laid.{slowest, margin}
use Rattle.pacing.specs.Shelves.{worst_shelf, slowest_shelf, margin_shelf}
use Rattle.plan.specs.Plan.{rows_of}
use Rattle.plan.specs.Plan.{showing_of, worst2_of, worst_film_of, worst_at_of, streams_of, margin_of, lead_of, buffer_size, plan_of, row, positions_of, leads_of}
use Rattle.plan.specs.Answer.{begins, has_numbers, has_positions, has_leads, is_plan}
use Rattle.rules.specs.Scheduler as S
use Rattle.rules.specs.Sound.{is_zero, sound_slot, sound}
use Rattle.rules.specs.Order.{eldest, dropped, member, waiting_count, eldest_lead, served, placed_all, by_place}
use Rattle.rules.specs.Calls.{refusals, accepted, answer}
use Rattle.rules.specs.Arrays.{slots_of}
use Rattle.desk.specs.declared.Desk.{Desk}
use Rattle.desk.specs.Records.{record_of}
use Rattle.laws.specs.Starts.{start_of}
use Rattle.numbers.specs.Slots.{between, waiting, filling, playing}
use Rattle.laws.specs.Indices.{all_from}
use Rattle.rules.specs.Refusals.{judged, verdict}
use Rattle.desk.specs.Desk.{supply_of, view_of, desk_of, zeros, fresh_desk, open_desk, answer_of, answered, join_desk, leave_desk, begin_desk, array, fetches_of}
use Rattle.cases.specs.Bench.{entries, shelf}
use Rattle.cases.specs.Story.{figures, positions, leads}

-- a desk between sweeps whose first slots have these kinds, next blocks, held bytes and places; all others are free
unfoldable pub desk_with : List ℕ → List ℕ → List ℕ → List ℕ → Desk
desk_with ks xs hs qs = record_of (plan_of one figures) between (array ks) (array xs) (array hs) (array qs)

-- slots 0 and 1 ask to start at blocks a and b, with places x and y; slot 2 plays, fetches block 1 next and holds h
unfoldable pub begun_desk : ℕ → ℕ → ℕ → ℕ → ℕ → Desk
begun_desk a b x y h =
    (begin_desk (desk_with (waiting ∷ waiting ∷ playing ∷ []) (a ∷ b ∷ 1 ∷ []) (0 ∷ 0 ∷ h ∷ []) (x ∷ y ∷ [])) positions leads 16).desk

-- slots 0 and 1 ask, slot 2 fills: what a join is answered where the places are these
unfoldable pub join_fault : List ℕ → ℕ
join_fault qs = (join_desk (desk_with (waiting ∷ waiting ∷ filling ∷ []) [] [] qs) positions leads 3 0 0).verdict.number

-- the kinds and the places of the first three slots
abbrev pub Shows : Desk → List ℕ → List ℕ → Type 0
Shows d ks qs = (take 3 d.kinds ≡ ks) × (take 3 d.places ≡ qs)

-- three slots ask
abbrev pub three_ask : List ℕ → Desk
three_ask qs = desk_with (waiting ∷ waiting ∷ waiting ∷ []) [] [] qs

pub record Asking : Type 0 where
  -- the floor with the lead 3110 of block 2 is 262921.5, with 6550 of block 0 too it is 264559: the eldest is granted, though its slot is the
  -- higher, and the other has its place (T5.1, T5.4)
  pub eldest_first : Shows (begun_desk 0 2 2 1 262922) (1 ∷ 2 ∷ 3 ∷ []) (1 ∷ 0 ∷ 0 ∷ [])
  -- where the eldest has to wait, one whose lead is 0 waits behind it (T5.2); as the eldest it is granted
  pub none_behind : Shows (begun_desk 1 0 2 1 262144) (1 ∷ 1 ∷ 3 ∷ []) (2 ∷ 1 ∷ 0 ∷ [])
  pub lead_first : Shows (begun_desk 1 0 1 2 262144) (2 ∷ 1 ∷ 3 ∷ []) (0 ∷ 1 ∷ 0 ∷ [])
  -- what holds the floor for both grants both
  pub both_granted : Shows (begun_desk 0 2 2 1 264559) (2 ∷ 2 ∷ 3 ∷ []) (0 ∷ 0 ∷ 0 ∷ [])
  -- later places drop where one leaves, and no other; one that joins is the last (T5.3, T5.4)
  pub first_leaves : Shows (leave_desk (three_ask (1 ∷ 2 ∷ 3 ∷ [])) positions leads 0).desk (0 ∷ 1 ∷ 1 ∷ []) (0 ∷ 1 ∷ 2 ∷ [])
  pub second_leaves : Shows (leave_desk (three_ask (3 ∷ 1 ∷ 2 ∷ [])) positions leads 2).desk (1 ∷ 1 ∷ 0 ∷ []) (2 ∷ 1 ∷ 0 ∷ [])
  pub last_joins : take 4 (join_desk (three_ask (3 ∷ 1 ∷ 2 ∷ [])) positions leads 3 0 0).desk.places ≡ 3 ∷ 1 ∷ 2 ∷ 4 ∷ []
  -- places that are 1 and 2; a place twice, one left out, none, one of a slot that fills, of a free one, of an unused one: 14 (T5.9)
  pub placed : (join_fault (1 ∷ 2 ∷ []) ≡ 0) × (join_fault (2 ∷ 1 ∷ []) ≡ 0)
  pub twice : join_fault (1 ∷ 1 ∷ []) ≡ 14
  pub left_out : (join_fault (1 ∷ 3 ∷ []) ≡ 14) × (join_fault (3 ∷ 2 ∷ []) ≡ 14)
  pub unplaced : (join_fault [] ≡ 14) × (join_fault (1 ∷ []) ≡ 14)
  pub filling_placed : join_fault (1 ∷ 2 ∷ 3 ∷ []) ≡ 14
  pub free_placed : join_fault (1 ∷ 2 ∷ 0 ∷ 3 ∷ []) ≡ 14
  pub unused_placed : join_fault ((1 ∷ 2 ∷ replicate 253 0) ++ (3 ∷ [])) ≡ 14

pub asking : Asking
unfolding sum_by all_by greatest_of greatest all_from words_of bytes_of first below above outside then_above then_below fault_of time_fault room_fault blocks_fault total_positions straight_from straight is_line straight_fault row_fault measured_fault table_fault shelf_fault film_fault zone_faults zeros_from unused_zero record_fault zigzag worst_time time_at run span lead overhead load streams buffer_of slowest margin first_reaching earliest_of worst_at showing_of worst2_of worst_at_of streams_of margin_of buffer_size plan_of row positions_of leads_of begins has_numbers has_positions has_leads is_plan S.before S.insert S.sorted S.entries_at S.reads S.lead_of S.leads S.low_water S.holds S.joined S.left S.started_slot S.started S.players_hold S.grantable S.granted S.is_fetched S.entries_from S.entries S.time_of S.times S.fetch_count S.bound is_zero sound_slot sound judged verdict eldest dropped member waiting_count eldest_lead served placed_all by_place refusals accepted answer slots_of supply_of view_of desk_of zeros fresh_desk open_desk answer_of answered join_desk leave_desk begin_desk array fetches_of entries shelf positions leads desk_with begun_desk join_fault start_of worst_shelf slowest_shelf margin_shelf rows_of worst_film_of
asking = record {
  eldest_first = (refl, refl);
  none_behind = (refl, refl);
  lead_first = (refl, refl);
  both_granted = (refl, refl);
  first_leaves = (refl, refl);
  second_leaves = (refl, refl);
  last_joins = refl;
  placed = (refl, refl);
  twice = refl;
  left_out = (refl, refl);
  unplaced = (refl, refl);
  filling_placed = refl;
  free_placed = refl;
  unused_placed = refl;
}
