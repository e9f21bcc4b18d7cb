use Rattle.filmdisk.proofs.filmdisk_begin.Goals as goal

pub returns : goal.returns
returns c = c.begin.ensures
