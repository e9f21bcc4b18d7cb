use Rattle.std.proofs.Common.{ℕ, ◌+◌, ◌-◌, ◌<◌, ◌≤◌, ◌≡◌, List, ◌∷◌, get_or, arith}
use Rattle.std.specs.Prelude.{Bool}
use Rattle.card_field.specs.Row.{row_numbers}
use Rattle.card.specs.declared.Figures.{Figures}
use Rattle.card.specs.Card.{measure_numbers, film_numbers}
use Rattle.card_writer.proofs.WriterWays.{Writes, writes_start, writes_rest, writes_fits, writes_next, writes_last, row_done, row_more}
use Rattle.card_writer.proofs.writing.put_films.Goals as goal

-- `left` films from the i-th on, and what follows them
abbrev films_from : Figures → ℕ → ℕ → List ℕ
films_from f left i = row_numbers left i f.blocks (measure_numbers f)

-- what is left to put: all, a film and the rest, and what follows the films
all_left : (write : Bool) (out : List ℕ) (start : ℕ) (f : Figures)
    → Writes write out start (film_numbers f) out start (f.films ∷ films_from f f.films 0)
unfolding film_numbers
all_left write out start f = writes_start write out start _

module _ {write : Bool} {out x : List ℕ} {start at : ℕ} (f : Figures) (i : ℕ) where
  film_left : i < f.films → Writes write out start (film_numbers f) x at (films_from f (f.films - i) i)
      → Writes write out start (film_numbers f) x at (get_or f.blocks i 0 ∷ films_from f (f.films - (i + 1)) (i + 1))
  film_left h w = rw (row_more f.blocks (measure_numbers f) i (f.films - i) (f.films - (i + 1)) (omega arith)) at w

  measures_left : f.films ≤ i → Writes write out start (film_numbers f) x at (films_from f (f.films - i) i)
      → Writes write out start (film_numbers f) x at (measure_numbers f)
  measures_left h w = rw (row_done f.blocks (measure_numbers f) i (f.films - i) (omega arith)) at w

pub put_number-at-requires : goal.put_number-at-requires
put_number-at-requires c = writes_fits c.requires.1 (all_left _ _ _ _)

pub loop-i-init : goal.loop-i-init
loop-i-init c =
    let none : c.args.figures.films - 0 ≡ c.args.figures.films = omega arith in
    rw none (writes_next c.requires.1 (all_left _ _ _ _) c.put_number-at.ensures)

pub put_number-at-requires-in-loop-i : goal.put_number-at-requires-in-loop-i
put_number-at-requires-in-loop-i c = writes_fits c.requires.1 (film_left _ _ (omega arith) c.loop-i.invariant)

pub loop-i-preserved : goal.loop-i-preserved
loop-i-preserved c = writes_next c.requires.1 (film_left _ _ (omega arith) c.loop-i.invariant) c.put_number-at-in-loop-i.ensures

pub put_measures-requires : goal.put_measures-requires
put_measures-requires c = writes_rest c.requires.1 (measures_left _ _ (omega arith) c.loop-i.invariant)

pub returns : goal.returns
returns c = writes_last (measures_left _ _ (omega arith) c.loop-i.invariant) c.put_measures.ensures
