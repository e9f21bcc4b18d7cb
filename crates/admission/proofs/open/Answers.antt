use Rattle.admission.proofs.open.Goals as goal

pub returns : goal.returns
returns c = c.opened.ensures
