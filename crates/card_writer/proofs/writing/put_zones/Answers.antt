use Rattle.std.proofs.Common.{ℕ, ◌+◌, ◌-◌, ◌<◌, ◌≤◌, ◌≡◌, List, ◌∷◌, get_or, arith}
use Rattle.std.specs.Prelude.{Bool}
use Rattle.card.specs.declared.Figures.{Figures}
use Rattle.card.specs.Card.{zone_numbers, film_numbers}
use Rattle.card_writer.proofs.WriterWays.{Writes, writes_start, writes_rest, writes_fits, writes_next, writes_last, numbers_done, numbers_more}
use Rattle.card_writer.proofs.writing.put_zones.Goals as goal

-- what is left to put where a zone begins, and where the films are
module _ {write : Bool} {out x : List ℕ} {start at : ℕ} (f : Figures) (i : ℕ) where
  zone_left : i < f.zones → Writes write out start (zone_numbers f.zones 0 f) x at (zone_numbers (f.zones - i) i f)
      → Writes write out start (zone_numbers f.zones 0 f) x at
      (get_or f.positions i 0 ∷ get_or f.times i 0 ∷ zone_numbers (f.zones - (i + 1)) (i + 1) f)
  zone_left h w = rw (numbers_more f i (f.zones - i) (f.zones - (i + 1)) (omega arith)) at w

  films_left : f.zones ≤ i → Writes write out start (zone_numbers f.zones 0 f) x at (zone_numbers (f.zones - i) i f)
      → Writes write out start (zone_numbers f.zones 0 f) x at (film_numbers f)
  films_left h w = rw (numbers_done f i (f.zones - i) (omega arith)) at w

pub loop-i-init : goal.loop-i-init
loop-i-init c =
    let none : c.args.figures.zones - 0 ≡ c.args.figures.zones = omega arith in
    rw none (writes_start _ _ _ _)

pub put_number-at-requires : goal.put_number-at-requires
put_number-at-requires c = writes_fits c.requires.2 (zone_left _ _ (omega arith) c.loop-i.invariant)

pub put_number-at-requires-in-loop-i : goal.put_number-at-requires-in-loop-i
put_number-at-requires-in-loop-i c =
    let time = writes_next c.requires.2 (zone_left _ _ (omega arith) c.loop-i.invariant) c.put_number-at.ensures in
    writes_fits c.requires.2 time

pub loop-i-preserved : goal.loop-i-preserved
loop-i-preserved c =
    let time = writes_next c.requires.2 (zone_left _ _ (omega arith) c.loop-i.invariant) c.put_number-at.ensures in
    writes_next c.requires.2 time c.put_number-at-in-loop-i.ensures

pub put_films-requires : goal.put_films-requires
put_films-requires c = (c.requires.1, writes_rest c.requires.2 (films_left _ _ (omega arith) c.loop-i.invariant))

pub returns : goal.returns
returns c = writes_last (films_left _ _ (omega arith) c.loop-i.invariant) c.put_films.ensures
