use Rattle.filmdisk.proofs.filmdisk_plan_scratch.Goals as goal

pub returns : goal.returns
returns c = c.plan_scratch.ensures
