use Rattle.std.specs.Prelude.{◌≡◌}
use Rattle.placement.specs.Showing.{laying}
use Rattle.plan.specs.Plan.{walk_of}
use Rattle.worst_row.specs.Rows.{past, Comes, row_time}
use Rattle.worst_row.proofs.first_row.Given as goal

-- as many blocks as turns
abbrev pub invariant-loop : goal.invariant-loop
invariant-loop l = record {
  comes : Comes l.fn.sizes l.fn.times (laying (walk_of l.fn.showing) l.fn.total l.fn.blocks) l.fn.blocks l.ahead.walk l.ahead.next;
  next : l.ahead.next ≡ past l.fn.blocks l.counter 0;
  time : l.sum ≡ row_time l.fn.sizes l.fn.times (laying (walk_of l.fn.showing) l.fn.total l.fn.blocks) l.fn.blocks l.counter 0;
}
