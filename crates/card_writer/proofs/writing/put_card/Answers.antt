use Rattle.std.specs.Prelude.{ℕ, Bool, List, ◌∷◌}
use Rattle.card.specs.declared.Figures.{Figures}
use Rattle.card.specs.Card.{zone_numbers, numbers_of, bytes_of, card_of}
use Rattle.card_writer.specs.Put.{Room}
use Rattle.card_writer.proofs.WriterWays.{Writes, writes_start, writes_rest, writes_fits, writes_next, writes_last}
use Rattle.card_writer.proofs.writing.put_card.Goals as goal

-- the card has room in the buffer
room : {write : Bool} {out : List ℕ} (f : Figures) → Room write out 0 (card_of f) → Room write out 0 (bytes_of (numbers_of f))
unfolding card_of
room f r = r

all_left : (write : Bool) (out : List ℕ) (f : Figures)
    → Writes write out 0 (numbers_of f) out 0 (f.kind ∷ f.zones ∷ zone_numbers f.zones 0 f)
unfolding numbers_of
all_left write out f = writes_start write out 0 _

pub put_number-first-requires : goal.put_number-first-requires
put_number-first-requires c = writes_fits (room _ c.requires.2) (all_left _ _ _)

pub put_number-second-requires : goal.put_number-second-requires
put_number-second-requires c =
    let fits = room c.args.figures c.requires.2 in
    writes_fits fits (writes_next fits (all_left _ _ _) c.put_number-first.ensures)

pub put_zones-requires : goal.put_zones-requires
put_zones-requires c =
    let fits = room c.args.figures c.requires.2 in
    let count = writes_next fits (all_left _ _ _) c.put_number-first.ensures in
    (c.requires.0, c.requires.1, writes_rest fits (writes_next fits count c.put_number-second.ensures))

pub returns : goal.returns
unfolding card_of
returns c =
    let fits = room c.args.figures c.requires.2 in
    let count = writes_next fits (all_left _ _ _) c.put_number-first.ensures in
    writes_last (writes_next fits count c.put_number-second.ensures) c.put_zones.ensures
