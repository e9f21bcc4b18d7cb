use Rattle.filmdisk.proofs.filmdisk_end.Goals as goal

pub returns : goal.returns
returns c = c.end.ensures
