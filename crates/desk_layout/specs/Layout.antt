-- The byte layout of a desk: the words of its plan (crate plan_layout), then the phase and the slots. A further field is a line in each of three
-- places: the table, the record's values in its order, and the record of these.
use Rattle.std.specs.Prelude.{ℕ, ◌*◌, List, [], ◌∷◌, ◌++◌}
use Rattle.numbers.specs.Limits.{max_streams}
use Rattle.plan.specs.declared.Plan.{Plan}
use Rattle.desk.specs.declared.Desk.{Desk}
use Rattle.fields.specs.Fields.{Field, word, array, Values, ◌&◌, word_count, packed, unpacked, joined, front, behind}
use Rattle.plan_layout.specs.Layout.{plan_fields, plan_values, plan_of_values}

-- ---- a desk: its plan, then the phase and the slots

abbrev pub slot_fields : List Field
slot_fields =
    -- phase; kinds, next blocks, held bytes and places
    word
    ∷ array max_streams
    ∷ array max_streams
    ∷ array max_streams
    ∷ array max_streams
    ∷ []

abbrev pub slot_values : Desk → Values slot_fields
slot_values d = d.phase & d.kinds & d.next & d.held & d.places & tt

abbrev pub desk_with : Plan → Values slot_fields → Desk
desk_with p (phase, (kinds, (next, (held, (places, end))))) = record { plan = p; phase = phase; kinds = kinds; next = next; held = held; places = places }

abbrev pub desk_fields : List Field
desk_fields = plan_fields ++ slot_fields

abbrev pub desk_values : Desk → Values desk_fields
desk_values d = joined plan_fields slot_fields (plan_values d.plan) (slot_values d)

abbrev pub desk_of_values : Values desk_fields → Desk
desk_of_values vs = desk_with (plan_of_values (front plan_fields slot_fields vs)) (behind plan_fields slot_fields vs)

unfoldable pub desk_words : Desk → List ℕ
desk_words d = packed desk_fields (desk_values d)

-- the desk that words say
unfoldable pub desk_in : List ℕ → Desk
desk_in ws = desk_of_values (unpacked desk_fields 0 ws)

abbrev pub desk_word_count : ℕ
desk_word_count = word_count desk_fields

abbrev pub desk_size : ℕ
desk_size = 4 * desk_word_count

-- with another phase and other kinds
abbrev pub with_kinds : Desk → ℕ → List ℕ → Desk
with_kinds d x ks = record { plan = d.plan; phase = x; kinds = ks; next = d.next; held = d.held; places = d.places }

-- with other places
abbrev pub with_places : Desk → List ℕ → Desk
with_places d qs = record { plan = d.plan; phase = d.phase; kinds = d.kinds; next = d.next; held = d.held; places = qs }
