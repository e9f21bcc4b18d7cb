use Rattle.std.proofs.Common.{◌+◌, ap, ◌∙◌, arith}
use Rattle.card_field.specs.Ranges.{blocks_fault}
use Rattle.card_field.specs.Figure.{field_in}
use Rattle.card.specs.Read.{then_field}
use Rattle.card_reader.proofs.ReaderWays.{row_done, row_stop, row_more, film_fits}
use Rattle.card_reader.proofs.shelf.read_lengths.Goals as goal

pub returns-in_default : goal.returns-in_default
returns-in_default c =
    let l = c.loop-i in
    λ go. row_stop (blocks_fault _ _) ◌+◌ _ l.at l.sofar l.i l.blocks go _ c.read_blocks-film.ensures (omega arith) (λ v next. go l.blocks next)
    (ap field_in c.in_default.is)
    ∙ l.invariant.same go

pub overflow_add-sofar : goal.overflow_add-sofar
overflow_add-sofar c = omega (arith, film_fits _ _ _ _ _ c.read_blocks-film.ensures (ap field_in c.in-Ok.is))

pub loop-i-preserved : goal.loop-i-preserved
loop-i-preserved c =
    let l = c.loop-i in
    record {
      few = film_fits _ _ _ _ _ c.read_blocks-film.ensures (ap field_in c.in-Ok.is);
      same = λ go. row_more (blocks_fault _ _) ◌+◌ _ l.at l.sofar l.i l.blocks go _ c.read_blocks-film.ensures _ (omega arith) (ap field_in c.in-Ok.is)
          ∙ l.invariant.same go;
    }

pub returns : goal.returns
unfolding then_field
returns c =
    let l = c.loop-i in
    λ go. row_done (blocks_fault _ _) ◌+◌ _ l.at l.sofar l.i l.blocks go _ (omega arith) ∙ l.invariant.same go
