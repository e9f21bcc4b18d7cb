use Rattle.std.proofs.Common.{arith, rules, ◌∙◌}
use Rattle.walk.specs.Walk.{side_of}
use Rattle.walk.specs.Meets.{meets}
use Rattle.block_lists.proofs.Runs.{writes_start, writes_run, writes_end, written_all, run_leads}
use Rattle.block_lists.proofs.write_leads.Goals as goal

pub loop-b-init : goal.loop-b-init
loop-b-init c = record { cursors = c.set_out-walk.ensures; leads = writes_start _ _ _ _ (omega arith) }

pub zone_of-low-requires : goal.zone_of-low-requires
zone_of-low-requires c = meets c.requires.0 c.loop-b.invariant.cursors.low (omega arith)

pub zone_of-high-requires : goal.zone_of-high-requires
zone_of-high-requires c = meets c.requires.0 c.loop-b.invariant.cursors.high (omega arith)

pub run_from-walk-requires : goal.run_from-walk-requires
run_from-walk-requires c = (c.requires.0, omega arith, c.zone_of-low.ensures, c.zone_of-high.ensures)

pub put_each-requires-clause-within : goal.put_each-requires-clause-within
put_each-requires-clause-within c = let r = c.run_from-walk.ensures in
    record { order = omega (arith, r.ahead); long = omega (arith, r.within, c.loop-b.invariant.leads.entries, c.requires.1) }

pub loop-b-preserved : goal.loop-b-preserved
loop-b-preserved c = let r = c.run_from-walk.ensures in
    let e = c.put_each.ensures (side_of c.lead-even.result c.lead-odd.result) (λ k v l u r. search rules) in
    record {
      cursors = r.cursors;
      leads = writes_run c.loop-b.invariant.leads (omega arith) r.within e (run_leads r c.args.worst2 c.lead-even.ensures c.lead-odd.ensures);
    }

pub returns : goal.returns
returns c = writes_end c.loop-b.invariant.leads (omega arith) ∙ written_all _ _ _
