use Rattle.try_layings.proofs.Ordering.{Ordering}
use Rattle.try_layings.proofs.orders.order.Given as goal

abbrev pub invariant-loop-next : goal.invariant-loop-next
invariant-loop-next l = Ordering l.fn.count l.fn.number l.fn.times l.row l.rest l.size l.next
