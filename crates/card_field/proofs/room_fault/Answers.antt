use Rattle.card_field.proofs.FieldWays.{room_of_blocks, room_of_halves}
use Rattle.card_field.proofs.room_fault.Goals as goal

pub returns-then-visits-le1 : goal.returns-then-visits-le1
returns-then-visits-le1 c = room_of_blocks _ c.if-visits-le1.true

pub returns : goal.returns
returns c = room_of_halves _ c.if-visits-le1.false
