use Rattle.soundness.proofs.Tells.{tells_yes, tells_within}
use Rattle.soundness.proofs.slots.holds_least.Goals as goal

pub returns-in-3 : goal.returns-in-3
returns-in-3 c = tells_within c.args.least c.args.held (λ l _. l) (λ f. f c.in-3.is)

pub returns-in_default : goal.returns-in_default
returns-in_default c = tells_yes (λ k. absurd (c.in_default.in_default-own.rest.1 k))
