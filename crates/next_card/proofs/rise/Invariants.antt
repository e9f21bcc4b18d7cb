use Rattle.std.proofs.Common.{◌≡◌}
use Rattle.small_cards.specs.Next.{risen}
use Rattle.next_card.proofs.rise.Given as goal

abbrev pub invariant-loop-i : goal.invariant-loop-i
invariant-loop-i l = risen l.falls l.i l.next ≡ risen l.falls l.fn.count l.fn.entries
