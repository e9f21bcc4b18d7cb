use Rattle.std.proofs.Common.{arith, rules, sym, ◌∙◌}
use Rattle.placement.specs.Showing.{laying}
use Rattle.plan.specs.Plan.{walk_of}
use Rattle.plan.specs.Check.{walks_loop}
use Rattle.plan.specs.Rows.{begins_short}
use Rattle.block_lists.proofs.Runs.{has_all}
use Rattle.block_lists.proofs.same_positions.Goals as goal

pub returns-then-entries-blocks : goal.returns-then-entries-blocks
returns-then-entries-blocks c = sym (begins_short _ 0 _ _ (omega arith))

pub returns-then-showing-eq-LOOP : goal.returns-then-showing-eq-LOOP
returns-then-showing-eq-LOOP c = rw (walks_loop _ c.if-showing-eq-LOOP.true) c.same_ring.ensures

pub returns : goal.returns
returns c = let a = c.args in
    c.same_each.ensures (laying (walk_of a.showing) a.total a.blocks) (λ k v l u r. search rules) ∙ has_all _ _ _
