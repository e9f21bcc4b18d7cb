use Rattle.next_card.proofs.Ways.{limit_first, limit_falls, limit_free}
use Rattle.next_card.proofs.limit.Goals as goal

pub returns-then-i-eq0 : goal.returns-then-i-eq0
returns-then-i-eq0 c = limit_first c.args.falls c.args.entries c.args.i c.if-i-eq0.true

pub returns-then-falls : goal.returns-then-falls
returns-then-falls c = limit_falls c.args.falls c.args.entries c.args.i c.if-i-eq0.false c.if-falls.true

pub returns : goal.returns
returns c = limit_free c.args.falls c.args.entries c.args.i c.if-i-eq0.false c.if-falls.false
