use Rattle.std.proofs.Common.{rules, ◌∙◌}
use Rattle.placement.specs.Showing.{laying}
use Rattle.plan.specs.Plan.{walk_of}
use Rattle.plan.specs.Check.{walks_loop}
use Rattle.block_lists.proofs.Runs.{written_all}
use Rattle.block_lists.proofs.write_positions.Goals as goal

pub returns-then-showing-eq-LOOP : goal.returns-then-showing-eq-LOOP
returns-then-showing-eq-LOOP c = rw (walks_loop _ c.if-showing-eq-LOOP.true) c.put_ring.ensures

pub returns : goal.returns
returns c = let a = c.args in
    c.put_each.ensures (laying (walk_of a.showing) a.total a.blocks) (λ k v l u r. search rules) ∙ written_all _ _ _
