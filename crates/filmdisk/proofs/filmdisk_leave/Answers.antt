use Rattle.filmdisk.proofs.filmdisk_leave.Goals as goal

pub returns : goal.returns
returns c = c.leave.ensures
