use Rattle.sweep_strings.proofs.begin.Goals as goal

pub returns : goal.returns
returns c = c.begin_by.ensures
