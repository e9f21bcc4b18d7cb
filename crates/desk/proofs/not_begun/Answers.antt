use Rattle.desk.specs.Records.{not_begun}
use Rattle.desk.proofs.not_begun.Goals as goal

pub returns : goal.returns
unfolding not_begun
returns c = λ t. record {
  verdict = record { number = c.args.number; place = 0 };
  desk = c.args.desk;
  bound = 0;
  fetches = c.no_fetches.ensures t;
}
