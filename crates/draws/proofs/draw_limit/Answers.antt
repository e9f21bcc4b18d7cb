use native.Mathlib.Omega.{arith}
use Rattle.draws.proofs.Drawing.{kind_draws, kind_other}
use Rattle.draws.proofs.draw_limit.Goals as goal

pub returns-in-3 : goal.returns-in-3
returns-in-3 c = kind_draws c.args.most c.args.kind (omega arith) (omega arith)

pub returns-in-4 : goal.returns-in-4
returns-in-4 c = kind_draws c.args.most c.args.kind (omega arith) (omega arith)

pub returns-in_default : goal.returns-in_default
returns-in_default c = kind_other c.args.most c.args.kind (λ z. omega arith) (λ z. omega arith)
