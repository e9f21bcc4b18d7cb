use Rattle.filmdisk.proofs.filmdisk_join.Goals as goal

pub returns : goal.returns
returns c = c.join.ensures
