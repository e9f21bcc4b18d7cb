use Rattle.filmdisk.proofs.filmdisk_open.Goals as goal

pub returns : goal.returns
returns c = c.«open».ensures
