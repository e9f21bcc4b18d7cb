use Rattle.std.proofs.Common.{ap, ◌∙◌, arith}
use Rattle.card_field.specs.Figure.{field_in}
use Rattle.card.specs.Read.{then_field}
use Rattle.card_reader.proofs.ReaderWays.{field_fits, read_done, read_few, read_slow, read_more}
use Rattle.card_reader.proofs.figures.read_zones.Goals as goal

pub returns-in_default : goal.returns-in_default
returns-in_default c =
    let l = c.loop-i in
    λ go. read_few _ l.at l.i l.sizes l.times l.total l.before go _ c.read_field-first.ensures (omega arith) (λ v next. go l.sizes l.times v next)
    (ap field_in c.in_default.is)
    ∙ l.invariant.same go

pub returns-in_default-second : goal.returns-in_default-second
returns-in_default-second c =
    let l = c.loop-i in
    λ go. read_slow _ l.at l.i l.sizes l.times l.total l.before go _ c.read_field-first.ensures (ap field_in c.in-Ok.is) c.read_time-second.ensures (omega arith)
    (λ v next. go l.sizes l.times v next) (ap field_in c.in_default-second.is)
    ∙ l.invariant.same go

pub overflow_add-total : goal.overflow_add-total
overflow_add-total c = omega (arith, field_fits _ _ _ c.read_field-first.ensures (ap field_in c.in-Ok.is))

pub loop-i-preserved : goal.loop-i-preserved
loop-i-preserved c =
    let l = c.loop-i in
    record {
      few = field_fits _ _ _ c.read_field-first.ensures (ap field_in c.in-Ok.is);
      same = λ go. read_more _ l.at l.i l.sizes l.times l.total l.before go _ c.read_field-first.ensures (ap field_in c.in-Ok.is) c.read_time-second.ensures _
          (omega arith) (ap field_in c.in-Ok-second.is) ∙ l.invariant.same go;
    }

pub returns : goal.returns
unfolding then_field
returns c =
    let l = c.loop-i in
    λ go. read_done _ l.at l.i l.sizes l.times l.total l.before go _ (omega arith) ∙ l.invariant.same go
