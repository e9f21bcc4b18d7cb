use Rattle.sweep_strings.proofs.end.Goals as goal

pub returns : goal.returns
returns c = c.end_by.ensures
