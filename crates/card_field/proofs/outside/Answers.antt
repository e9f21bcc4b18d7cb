use Rattle.card_field.proofs.FieldWays.{outside_low, outside_high, outside_none}
use Rattle.card_field.proofs.outside.Goals as goal

pub returns-then-v-least : goal.returns-then-v-least
returns-then-v-least c = outside_low _ _ _ _ c.if-v-least.true

pub returns-then-most-v : goal.returns-then-most-v
returns-then-most-v c = outside_high _ _ _ _ c.if-v-least.false c.if-most-v.true

pub returns : goal.returns
returns c = outside_none _ _ _ _ c.if-v-least.false c.if-most-v.false
