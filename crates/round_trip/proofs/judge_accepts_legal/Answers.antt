use Rattle.legality.specs.Legality.{judge_legal}
use Rattle.round_trip.proofs.judge_accepts_legal.Goals as goal

pub returns : goal.returns
returns c = judge_legal 1
