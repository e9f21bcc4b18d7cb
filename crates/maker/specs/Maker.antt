-- The answer to a maker's text (document 02, ticket 1): the figures that a card with its numbers would give, or a refusal's number and line.
use Rattle.std.specs.Prelude.{ℕ, zero, suc, ◌*◌, List, [], ◌++◌, map, length, drop, Ok, Err}
use Rattle.numbers.specs.Limits.{straight_kind}
use Rattle.numbers.specs.Units.{sector_bytes}
use Rattle.card.specs.declared.Figures.{Figures}
use Rattle.card_table.specs.Table.{straight}
use Rattle.card.specs.Card.{one_film, record_fault}
use Rattle.card.specs.Read.{blank_zones, blank_figures, accepted}
use Rattle.tracks.specs.Tracks.{positions_in, time_in}
use Rattle.maker_lines.specs.declared.Drive.{Drive}
use Rattle.maker.specs.declared.MakerRead.{MakerRead}
use Rattle.maker_lines.specs.Lines.{Heading, heading_in}
use Rattle.maker_rows.specs.Rows.{Row, cylinders_of, Listed, Zones, Refused, rows_from}

-- ---- the figures

-- entries past the zones are zero
unfoldable pub padded : List ℕ → List ℕ
padded xs = xs ++ drop (length xs) blank_zones

-- the record of figures: z zones with their positions and times; B is 512 × sectors in a block (T1.9); N, c, hop and return come beside the
-- text (T1.10), hop and return make the table of a card of kind 1 (T3.3), and the shelf has one film (T14)
unfoldable pub filled : ℕ → List ℕ → List ℕ → ℕ → ℕ → ℕ → ℕ → ℕ → Figures
filled z positions times block n c hop ret =
    record {
      kind = straight_kind;
      zones = z;
      positions = positions;
      times = times;
      films = 1;
      blocks = one_film n;
      bytes = sector_bytes * block;
      rate = c;
      table = straight hop ret;
    }

-- a zone's positions and its time (T1.5 to T1.7)
unfoldable pub positions_of : Drive → Row → ℕ
positions_of d z = positions_in d.heads d.block (cylinders_of z) z.track

unfoldable pub time_of : Drive → Row → ℕ
time_of d z = time_in d.turns d.switch d.block z.track

-- THE FIGURES of line one and the zones, innermost first (T1.8)
unfoldable pub figures_of : Drive → List Row → ℕ → ℕ → ℕ → ℕ → Figures
figures_of d zs n c hop ret = filled (length zs) (padded (map (positions_of d) zs)) (padded (map (time_of d) zs)) d.block n c hop ret

-- ---- the answer

-- a refused text: number and line, and figures that are all zero (T1.12, T1.15)
unfoldable pub refused_text : ℕ → ℕ → MakerRead
refused_text k line = record { verdict = record { number = k; place = line }; figures = blank_figures }

-- a later refusal has line 0
unfoldable pub answered : ℕ → Figures → MakerRead
answered zero f = record { verdict = accepted; figures = f }
answered (suc k) f = refused_text (suc k) 0

-- judged as a record's: 4 to 10, and 26 right after 7; 12 is not judged (T1.10, T1.14)
unfoldable pub judged_figures : Figures → MakerRead
judged_figures f = answered (record_fault 1 f) f

unfoldable pub on_rows : Drive → ℕ → ℕ → ℕ → ℕ → Listed → MakerRead
on_rows d n c hop ret (Refused k line) = refused_text k line
on_rows d n c hop ret (Zones zs) = judged_figures (figures_of d zs n c hop ret)

unfoldable pub on_heading : List ℕ → ℕ → ℕ → ℕ → ℕ → Heading → MakerRead
on_heading s n c hop ret (Err k) = refused_text k 1
on_heading s n c hop ret (Ok (d, next)) = on_rows d n c hop ret (rows_from (length s) s next [])

-- THE ANSWER TO A TEXT s with N, c, hop and return beside it: line by line, then its figures
unfoldable pub read_maker : List ℕ → ℕ → ℕ → ℕ → ℕ → MakerRead
read_maker s n c hop ret = on_heading s n c hop ret (heading_in s)
