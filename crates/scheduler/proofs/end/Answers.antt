use Rattle.scheduler.proofs.end.Goals as goal

pub returns : goal.returns
returns c = c.ended.ensures
