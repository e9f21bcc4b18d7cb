use Rattle.walk.proofs.Layings.{once_low, once_run}
use Rattle.walk.proofs.once_end.Goals as goal

pub overflow_sub-even-2 : goal.overflow_sub-even-2
overflow_sub-even-2 c = once_low c.requires

pub returns : goal.returns
returns c = rw (c.min-2.ensures, c.min.ensures) (once_run c.requires)
