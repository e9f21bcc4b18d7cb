use Rattle.filmdisk.proofs.filmdisk_plan_pairs.Goals as goal

pub returns : goal.returns
returns c = c.plan_pairs.ensures
