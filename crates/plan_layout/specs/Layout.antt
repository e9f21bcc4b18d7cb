-- The byte layout of a plan: 32-bit words, lowest byte first, without padding (crate words). Here are the words. A further field is a line in
-- each of three places: the table, the record's values in its order, and the record of these.
use Rattle.std.specs.Prelude.{ℕ, ◌*◌, List, [], ◌∷◌, ◌++◌, replicate}
use Rattle.numbers.specs.Limits.{max_zones, max_films, table_length}
use Rattle.card.specs.declared.Figures.{Figures}
use Rattle.plan.specs.declared.Plan.{Plan}
use Rattle.fields.specs.Fields.{Field, word, array, Values, ◌&◌, word_count, packed, unpacked, joined, front, behind}

-- ---- the figures of a card

abbrev pub figure_fields : List Field
figure_fields =
    -- kind; zones, and positions and time of each
    word
    ∷ word
    ∷ array max_zones
    ∷ array max_zones
    -- films, and N of each
    ∷ word
    ∷ array max_films
    -- B, c; the table of overheads
    ∷ word
    ∷ word
    ∷ array table_length
    ∷ []

abbrev pub figure_values : Figures → Values figure_fields
figure_values f = f.kind & f.zones & f.positions & f.times & f.films & f.blocks & f.bytes & f.rate & f.table & tt

abbrev pub figures_of : Values figure_fields → Figures
figures_of (kind, (zones, (positions, (times, (films, (blocks, (bytes, (rate, (table, end))))))))) = record {
  kind = kind;
  zones = zones;
  positions = positions;
  times = times;
  films = films;
  blocks = blocks;
  bytes = bytes;
  rate = rate;
  table = table;
}

-- ---- a plan: its figures, then what was planned

abbrev pub planned_fields : List Field
planned_fields =
    -- streams, buffer, worst2, margin, showing, worstat
    word
    ∷ word
    ∷ word
    ∷ word
    ∷ word
    ∷ word
    ∷ []

abbrev pub planned_values : Plan → Values planned_fields
planned_values p = p.streams & p.buffer & p.worst2 & p.margin & p.showing & p.worstat & tt

abbrev pub plan_with : Figures → Values planned_fields → Plan
plan_with f (streams, (buffer, (worst2, (margin, (showing, (worstat, end)))))) = record {
  figures = f;
  streams = streams;
  buffer = buffer;
  worst2 = worst2;
  margin = margin;
  showing = showing;
  worstat = worstat;
}

abbrev pub plan_fields : List Field
plan_fields = figure_fields ++ planned_fields

abbrev pub plan_values : Plan → Values plan_fields
plan_values p = joined figure_fields planned_fields (figure_values p.figures) (planned_values p)

abbrev pub plan_of_values : Values plan_fields → Plan
plan_of_values vs = plan_with (figures_of (front figure_fields planned_fields vs)) (behind figure_fields planned_fields vs)

unfoldable pub plan_words : Plan → List ℕ
plan_words p = packed plan_fields (plan_values p)

-- the plan that words say
unfoldable pub plan_in : List ℕ → Plan
plan_in ws = plan_of_values (unpacked plan_fields 0 ws)

-- its words and its bytes
abbrev pub plan_word_count : ℕ
plan_word_count = word_count plan_fields

abbrev pub plan_size : ℕ
plan_size = 4 * plan_word_count

-- ---- a string that is all zero

unfoldable pub zero_bytes : ℕ → List ℕ
zero_bytes n = replicate n 0
