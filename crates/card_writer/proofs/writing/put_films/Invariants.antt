use Rattle.std.proofs.Common.{◌-◌}
use Rattle.card_field.specs.Row.{row_numbers}
use Rattle.card.specs.Card.{measure_numbers, film_numbers}
use Rattle.card_writer.proofs.WriterWays.{Writes}
use Rattle.card_writer.proofs.writing.put_films.Given as goal

-- the films before the i-th are put
abbrev pub invariant-loop-i : goal.invariant-loop-i
invariant-loop-i l =
    let f = l.figures in
    Writes l.write l.fn.out l.fn.start (film_numbers f) l.out l.at (row_numbers (f.films - l.i) l.i f.blocks (measure_numbers f))
