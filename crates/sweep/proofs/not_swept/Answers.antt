use Rattle.sweep.specs.Steps.{not_swept}
use Rattle.sweep.proofs.not_swept.Goals as goal

pub returns : goal.returns
unfolding not_swept
returns c =
    λ t. record {
      verdict = record { number = c.args.number; place = 0 };
      kinds = c.all_kinds.ensures t;
      places = c.all_places.ensures t;
      bound = 0;
      fetches = c.no_fetches.ensures t;
    }
