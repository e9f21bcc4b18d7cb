use mathlib.Core.Path.{refl}
use Rattle.layout.specs.Answers.{verdict_answer}
use Rattle.layout.proofs.verdict_answer.Goals as goal

pub returns : goal.returns
unfolding verdict_answer
returns c = refl
