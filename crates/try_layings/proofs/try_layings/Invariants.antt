use Rattle.std.proofs.Common.{take}
use Rattle.plan.specs.Plan.{walk_of}
use Rattle.layings.specs.Smallest.{Best}
use Rattle.layings.specs.Times.{orders_tried}
use Rattle.try_layings.proofs.try_layings.Given as goal

abbrev pub invariant-loop-number : goal.invariant-loop-number
invariant-loop-number l =
    Best (take l.number (orders_tried (walk_of l.fn.showing) l.fn.blocks (take l.fn.blocks l.fn.times))) l.found.least l.found.count
