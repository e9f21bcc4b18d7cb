use mathlib.Core.Path.{refl}
use Rattle.layout.specs.Answers.{window_answer_of}
use Rattle.layout.proofs.window_answer.Goals as goal

pub returns : goal.returns
unfolding window_answer_of
returns c = refl
