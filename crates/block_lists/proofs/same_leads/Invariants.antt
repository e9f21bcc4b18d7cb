use Rattle.std.proofs.Common.{◌-◌}
use Rattle.words.specs.Words.{words_of}
use Rattle.walk.specs.Walk.{Cursors}
use Rattle.placement.specs.Showing.{laying}
use Rattle.plan.specs.Plan.{walk_of}
use Rattle.plan.specs.Disk.{lead_at}
use Rattle.block_lists.proofs.Runs.{Compares}
use Rattle.block_lists.proofs.same_leads.Given as goal

abbrev pub invariant-loop-b : goal.invariant-loop-b
invariant-loop-b l = record {
  cursors : Cursors l.sizes l.walk;
  leads : Compares (words_of l.leads) (lead_at l.sizes l.times (laying (walk_of l.showing) l.total l.blocks) l.worst2) 0 l.blocks l.same l.b;
}

abbrev pub decreases-loop-b : goal.decreases-loop-b
decreases-loop-b l = l.blocks - l.b
