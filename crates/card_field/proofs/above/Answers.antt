use Rattle.card_field.proofs.FieldWays.{above_high, above_none}
use Rattle.card_field.proofs.above.Goals as goal

pub returns-then-most-v : goal.returns-then-most-v
returns-then-most-v c = above_high _ _ _ c.if-most-v.true

pub returns : goal.returns
returns c = above_none _ _ _ c.if-most-v.false
