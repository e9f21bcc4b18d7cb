use Rattle.open_strings.proofs.open.Goals as goal

pub returns : goal.returns
returns c = c.open_by.ensures
