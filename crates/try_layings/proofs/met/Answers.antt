use Rattle.std.proofs.Common.{arith}
use Rattle.layings.specs.Smallest.{best_less, best_equal, best_more}
use Rattle.try_layings.proofs.met.Goals as goal

pub returns-then-time-found : goal.returns-then-time-found
returns-then-time-found c = λ ws b. best_less c.args.found.least c.args.found.count c.args.time ws (omega arith) b

pub returns-then-found-time : goal.returns-then-found-time
returns-then-found-time c = λ ws b. best_more c.args.found.least c.args.found.count c.args.time ws (omega arith) (omega arith) b

pub returns : goal.returns
returns c = λ ws b. best_equal c.args.found.least c.args.found.count c.args.time ws (omega arith) (omega arith) b
