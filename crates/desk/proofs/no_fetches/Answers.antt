use Rattle.desk.specs.Desk.{zeros, array, fetches_of}
use Rattle.desk.proofs.no_fetches.Goals as goal

pub returns : goal.returns
unfolding fetches_of array zeros
returns c = λ t. record { count = 0; positions = c.zeros.ensures t; slots = c.zeros-2.ensures t; blocks = c.zeros-3.ensures t }
