use Rattle.filmdisk.proofs.filmdisk_end_scratch.Goals as goal

pub returns : goal.returns
returns c = c.end.ensures
