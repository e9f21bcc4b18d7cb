use Rattle.desk.specs.Desk.{fresh_desk}
use Rattle.desk.proofs.fresh_desk.Goals as goal

pub returns : goal.returns
unfolding fresh_desk
returns c = λ t. record {
  plan = c.args.plan;
  phase = 0;
  kinds = c.zeros.ensures t;
  next = c.zeros-2.ensures t;
  held = c.zeros-3.ensures t;
  places = c.zeros-4.ensures t;
}
