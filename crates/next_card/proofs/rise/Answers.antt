use Rattle.std.proofs.Common.{arith, ◌∙◌}
use Rattle.next_card.proofs.Ways.{risen_here, risen_later, risen_none}
use Rattle.next_card.proofs.rise.Goals as goal

pub returns-then-entry-limit : goal.returns-then-entry-limit
returns-then-entry-limit c =
    risen_here c.args.falls c.loop-i.next c.loop-i.i (omega arith) (omega (arith, c.limit.ensures, c.if-entry-limit.true)) ∙ c.loop-i.invariant

pub loop-i-preserved : goal.loop-i-preserved
loop-i-preserved c =
    risen_later c.args.falls c.loop-i.next c.loop-i.i (omega arith) (omega (arith, c.limit.ensures, c.if-entry-limit.false)) ∙ c.loop-i.invariant

pub returns : goal.returns
returns c = risen_none c.args.falls c.loop-i.next c.loop-i.i (omega arith) ∙ c.loop-i.invariant
