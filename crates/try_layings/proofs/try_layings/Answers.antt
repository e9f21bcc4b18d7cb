use Rattle.std.proofs.Common.{arith, sym, ap, ◌∙◌, ℕ, ◌<◌, take}
use lib.Seq.{take_all}
use Rattle.placement.specs.Showing.{walked_single}
use Rattle.plan.specs.Plan.{showing_of, walk_of}
use Rattle.layings.specs.Layings.{how_many}
use Rattle.layings.specs.Numbered.{factorial, factorial_pos}
use Rattle.layings.specs.Times.{orders_tried}
use Rattle.layings.proofs.Times.{orders_length}
use Rattle.try_layings.proofs.Ordering.{tried_at, best_next}
use Rattle.try_layings.proofs.try_layings.Goals as goal

pub loop-number-preserved : goal.loop-number-preserved
loop-number-preserved c =
    let a = c.args in
    let x = walk_of a.showing in
    let r = c.loop-number.number in
    let ws = orders_tried x a.blocks (take a.blocks a.times) in
    let h : r < factorial a.blocks = omega arith in
    best_next ws r c.worst_of.result _ _ (omega (arith, orders_length x a.blocks (take a.blocks a.times)))
    (c.worst_of.ensures.worst ∙ tried_at x (walked_single (showing_of a.showing)) a.blocks r a.times c.order-row.result h c.order-row.ensures.order)
    (c.met-found.ensures (take r ws) c.loop-number.invariant)

pub returns : goal.returns
returns c =
    let a = c.args in
    let ws = orders_tried (walk_of a.showing) a.blocks (take a.blocks a.times) in
    let n = orders_length (walk_of a.showing) a.blocks (take a.blocks a.times) in
    let b = rw (take_all c.loop-number.number ws (omega arith)) at c.loop-number.invariant in
    let s = b.some (omega (arith, factorial_pos a.blocks)) in
    record { least = s.0; count = s.1 ∙ ap (λ (w : ℕ). how_many w ws) (sym s.0) }
