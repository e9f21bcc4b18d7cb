use Rattle.numbers.specs.Numbered.{number_some}
use Rattle.card_field.specs.Figure.{on_fault}
use Rattle.card_field.proofs.FieldWays.{on_some}
use Rattle.card_field.proofs.judged.Goals as goal

pub returns-in-Ok : goal.returns-in-Ok
unfolding on_fault
returns-in-Ok c = rw c.in-Ok.is

pub returns-in-Err : goal.returns-in-Err
returns-in-Err c = rw c.in-Err.is (on_some _ _ _ _ (number_some _))
