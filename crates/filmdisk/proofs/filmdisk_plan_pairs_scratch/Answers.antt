use Rattle.filmdisk.proofs.filmdisk_plan_pairs_scratch.Goals as goal

pub returns : goal.returns
returns c = c.plan_pairs_scratch.ensures
