use Rattle.filmdisk.proofs.filmdisk_leave_scratch.Goals as goal

pub returns : goal.returns
returns c = c.leave.ensures
