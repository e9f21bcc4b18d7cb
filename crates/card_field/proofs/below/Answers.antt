use Rattle.card_field.proofs.FieldWays.{below_low, below_none}
use Rattle.card_field.proofs.below.Goals as goal

pub returns-then-v-least : goal.returns-then-v-least
returns-then-v-least c = below_low _ _ _ c.if-v-least.true

pub returns : goal.returns
returns c = below_none _ _ _ c.if-v-least.false
