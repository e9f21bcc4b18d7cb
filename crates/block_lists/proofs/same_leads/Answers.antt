use Rattle.std.proofs.Common.{arith, rules, sym, ◌∙◌}
use Rattle.walk.specs.Walk.{side_of}
use Rattle.walk.specs.Meets.{meets}
use Rattle.plan.specs.Rows.{begins_short}
use Rattle.block_lists.proofs.Runs.{compares_start, compares_run, compares_end, has_all, run_leads}
use Rattle.block_lists.proofs.same_leads.Goals as goal

pub returns-then-entries-blocks : goal.returns-then-entries-blocks
returns-then-entries-blocks c = sym (begins_short _ 0 _ _ (omega arith))

pub loop-b-init : goal.loop-b-init
loop-b-init c = record { cursors = c.set_out-walk.ensures; leads = compares_start _ _ _ _ (omega arith) }

pub zone_of-low-requires : goal.zone_of-low-requires
zone_of-low-requires c = meets c.requires c.loop-b.invariant.cursors.low (omega arith)

pub zone_of-high-requires : goal.zone_of-high-requires
zone_of-high-requires c = meets c.requires c.loop-b.invariant.cursors.high (omega arith)

pub run_from-walk-requires : goal.run_from-walk-requires
run_from-walk-requires c = (c.requires, omega arith, c.zone_of-low.ensures, c.zone_of-high.ensures)

pub loop-b-preserved : goal.loop-b-preserved
loop-b-preserved c = let r = c.run_from-walk.ensures in
    let e = c.same_each-run.ensures (side_of c.lead-even.result c.lead-odd.result) (λ k v l u r. search rules) in
    record {
      cursors = r.cursors;
      leads = compares_run c.loop-b.invariant.leads (omega arith) r.within c.both-same.ensures e
          (run_leads r c.args.worst2 c.lead-even.ensures c.lead-odd.ensures);
    }

pub returns : goal.returns
returns c = compares_end c.loop-b.invariant.leads (omega arith) ∙ has_all _ _ _
