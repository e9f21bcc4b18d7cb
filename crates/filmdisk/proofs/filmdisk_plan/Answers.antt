use Rattle.filmdisk.proofs.filmdisk_plan.Goals as goal

pub returns : goal.returns
returns c = c.plan.ensures
